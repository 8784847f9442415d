-- The octets of a sealing key are few.
use Rattle.std.proofs.Common.{◌≤◌, arith}
use Rattle.ha_base.specs.declared.key_material.KeySize.{KeySize}
use Rattle.ha_base.specs.declared.key_material.KeySize.TheVariants.{Bits128, Bits256}
use Rattle.ha_base.specs.KeySizes.{sealing_octets}

pub few_octets : (size : KeySize) → sealing_octets size ≤ 36
few_octets Bits128 = omega arith
few_octets Bits256 = omega arith
