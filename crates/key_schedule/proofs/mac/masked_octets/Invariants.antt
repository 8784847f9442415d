use Rattle.std.proofs.Common.{◌≡◌, ◌++◌, take, drop}
use Rattle.std.specs.Prelude.{bit_xor}
use Rattle.std.specs.Prelude.{map}
use Rattle.key_schedule.proofs.mac.masked_octets.Given as goal

abbrev pub invariant-loop-octet : goal.invariant-loop-octet
invariant-loop-octet l =
    l.octet-items ≡ map (λ octet. bit_xor octet l.mask) (take l.octet-index l.block) ++ drop l.octet-index l.block
