-- What stands before the ciphertext (RFC 7296, section 3.14; RFC 5282, section 3).
use Rattle.std.specs.Prelude.{ℕ, List, ◌∷◌, ◌++◌}
use Rattle.std.specs.Int.{w64, to_be_bytes}
use Rattle.ike_values.specs.Spelling.{two}

-- the header of an SK payload of so many octets, and its IV
abbrev pub sk_front : ℕ → ℕ → ℕ → List ℕ
sk_front first len iv = first ∷ 0 ∷ two len ++ to_be_bytes w64 iv
