-- How a `Key` holds what contracts see of it.
use Rattle.std.specs.Prelude.{◌≡◌, ℕ, ◌-◌, ◌*◌, ◌⊎◌, List, ◌++◌, slice_index, take}
use Rattle.aes_gcm.specs.declared.Key.TheInside.{Inside}
use Rattle.aes_gcm.specs.NamedKey.{NamedKey}
use Rattle.aes_gcm.specs.Aes.{aes, cipher}
use Rattle.aes_gcm.specs.Gcm.{hash_subkey}
use Rattle.aes_gcm.specs.HashTables.{IsHashTable}

-- a schedule begins with its key, which has four octets for each round beyond six
abbrev pub key_in : ℕ → List ℕ → List ℕ
key_in n w = take (4 * (n - 5)) w

abbrev pub named_key : Inside → NamedKey
named_key k = record { name = k.name; octets = key_in k.middle_rounds k.round_keys ++ k.salt }

-- there are 10 rounds or 14, the round keys are those of the key, and the tables those of the
-- cipher's hash subkey
abbrev pub IsHeldKey : Inside → Type 0
IsHeldKey k =
    ((k.middle_rounds ≡ 9) ⊎ (k.middle_rounds ≡ 13))
    × (cipher k.round_keys k.middle_rounds ≡ aes (key_in k.middle_rounds k.round_keys))
    × IsHashTable k.hash_tables
    × (slice_index k.hash_tables 8 ≡ hash_subkey (cipher k.round_keys k.middle_rounds))
