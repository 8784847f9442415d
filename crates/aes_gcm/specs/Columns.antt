-- A state as four words, one for each column, and the first round over counter blocks.
use Rattle.std.specs.Prelude.{◌≡◌, ℕ, ◌^◌, ◌<◌, List, [], ◌∷◌, ◌++◌, replicate, slice_index}
use Rattle.std.specs.Int.{w32, to_be_bytes, to_le_bytes}
use Rattle.aes_gcm.specs.Aes.{rounds, sub_byte, times, word, xored}
use Rattle.aes_gcm.specs.Gcm.{counter_block}

-- the octets of the columns, the lowest of each first
unfoldable pub column_octets : List ℕ → List ℕ
column_octets s =
    to_le_bytes w32 (slice_index s 0) ++ to_le_bytes w32 (slice_index s 1)
    ++ to_le_bytes w32 (slice_index s 2) ++ to_le_bytes w32 (slice_index s 3)

-- what an octet in row 2 adds to a column (FIPS 197, 5.1.3)
unfoldable pub from_row_2 : ℕ → List ℕ
from_row_2 s = s ∷ times 3 s ∷ times 2 s ∷ s ∷ []

-- what an octet in row 3 adds to a column
unfoldable pub from_row_3 : ℕ → List ℕ
from_row_3 s = s ∷ s ∷ times 3 s ∷ times 2 s ∷ []

-- What a round makes of the octets 14 and 15 of a state: ShiftRows brings the last to the first
-- column, and the other to the second.
unfoldable pub from_last_octets : ℕ → ℕ → List ℕ
from_last_octets a b = from_row_3 (sub_byte b) ++ from_row_2 (sub_byte a) ++ replicate 8 0

-- The state after the first round over the counter blocks of a nonce, without what the octets 14
-- and 15 add to it: those that differ in counters below 2 ^ 16.
abbrev pub IsBegun : List ℕ → List ℕ → List ℕ → Type 0
IsBegun w nonce begun =
    (k : ℕ) → k < 2 ^ 16 → let last = xored (to_be_bytes w32 k) (word w 3) in
    xored (column_octets begun) (from_last_octets (slice_index last 2) (slice_index last 3))
    ≡ rounds w (counter_block nonce k) 1
