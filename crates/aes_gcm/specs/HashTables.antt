-- The products of a hash subkey that a key keeps, so that GHASH takes four bits of eight places at
-- once.
use Rattle.std.specs.Prelude.{◌≡◌, ℕ, zero, suc, ◌-◌, ◌*◌, ◌/◌, ◌%◌, ◌^◌, ◌<◌, List, slice_index, bit_xor}
use Rattle.aes_gcm.specs.Gcm.{next_power, product_low}

-- v times x ^ n
unfoldable pub times_power : ℕ → ℕ → ℕ
times_power zero v = v
times_power (suc n) v = next_power (times_power n v)

-- The number a has eight windows of sixteen bits, the highest first. This is the sum, over its
-- first n windows, of what each window's lowest m bits add to the product with v.
unfoldable pub windows : ℕ → ℕ → ℕ → ℕ → ℕ
windows zero m a v = 0
windows (suc n) m a v = bit_xor (windows n m a v) (product_low m (a / 2 ^ (112 - 16 * n))
    (times_power (16 * n) v))

-- sixteen products for each window: those of four bits with the subkey, which is itself the entry 8
abbrev pub IsHashTable : List ℕ → Type 0
IsHashTable t =
    (j : ℕ) → j < 128 → slice_index t j ≡ product_low 4 (j % 16)
    (times_power (16 * (j / 16)) (slice_index t 8))
