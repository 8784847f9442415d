-- Numbers as bits: the bit of a number stands at its place modulo 1,024, in sixteen words of 64
-- bits (RFC 6479).
use Rattle.std.specs.Prelude.{ℕ, ◌/◌, ◌%◌, ◌==◌, List, Bool, slice_index}
use Rattle.std.specs.Int.{bit_at}

-- whether the bit of a number is set
abbrev pub is_marked : List ℕ → ℕ → Bool
is_marked words n = bit_at (slice_index words (n / 64 % 16)) (n % 64) == 1
