use Rattle.std.specs.Prelude.{◌≡◌, ◌⊎◌, ℕ, List, length}
use Rattle.ha_base.specs.declared.key_material.KeySize.{KeySize}
use Rattle.ha_base.specs.declared.key_material.KeySize.TheVariants.{Bits128, Bits256}

-- the octets of the AES key, and four of salt (RFC 4106, section 8.1)
abbrev pub sealing_octets : KeySize → ℕ
sealing_octets Bits128 = 20
sealing_octets Bits256 = 36

-- a sealing key of one of the two sizes
abbrev pub HasKeySize : List ℕ → Type 0
HasKeySize key = (length key ≡ sealing_octets Bits128) ⊎ (length key ≡ sealing_octets Bits256)
