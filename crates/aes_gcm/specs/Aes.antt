-- The Advanced Encryption Standard (FIPS 197) over lists of octets, with 10 and with 14 rounds.
-- An octet is a number below 256. As an element of GF(2 ^ 8) its bit i is the coefficient of x ^ i.
use Rattle.std.specs.Prelude.{ℕ, zero, suc, ◌+◌, ◌-◌, ◌*◌, ◌/◌, ◌%◌, ◌&&◌, ◌==◌, nat_lt, if◌then◌else◌, List, [], ◌∷◌, ◌++◌, length, map, take, drop, slice_index, bit_xor}
use Rattle.std.specs.Int.{w8, rotate_left}
use Rattle.std.specs.List.{concat, range_with_len}
use lib.Lanes.{zip2}

-- a times x modulo x ^ 8 + x ^ 4 + x ^ 3 + x + 1 (FIPS 197, 4.2.1)
abbrev pub times_x : ℕ → ℕ
times_x a = bit_xor (a * 2) (a / 128 * 0x11b)

-- a times the lowest n bits of b
unfoldable pub times_low : ℕ → ℕ → ℕ → ℕ
times_low zero a b = 0
times_low (suc n) a b = bit_xor (b % 2 * a) (times_low n (times_x a) (b / 2))

-- the product in GF(2 ^ 8) (FIPS 197, 4.2)
unfoldable pub times : ℕ → ℕ → ℕ
times a b = times_low 8 a b

-- the greatest number below n whose product with a is 1, or 0 where there is none
unfoldable pub inverse_below : ℕ → ℕ → ℕ
inverse_below a zero = 0
inverse_below a (suc n) = if times a n == 1 then n else inverse_below a n

-- the multiplicative inverse; that of 0 is 0
unfoldable pub inverse : ℕ → ℕ
inverse a = inverse_below a 256

-- the affine map over GF(2) (FIPS 197, 5.1.1)
unfoldable pub affine : ℕ → ℕ
affine b =
    bit_xor (bit_xor (bit_xor (bit_xor (bit_xor b (rotate_left w8 b 1)) (rotate_left w8 b 2))
    (rotate_left w8 b 3)) (rotate_left w8 b 4)) 0x63

-- the S-box
unfoldable pub sub_byte : ℕ → ℕ
sub_byte a = affine (inverse a)

unfoldable pub sub_bytes : List ℕ → List ℕ
sub_bytes s = map sub_byte s

-- The state is its octets in the order of the block, so row r and column c stand at r + 4 * c. In
-- column c comes what row r has in column (c + r) % 4 (FIPS 197, 5.1.2).
unfoldable pub shift_rows : List ℕ → List ℕ
shift_rows s =
    map (λ i. slice_index s (i % 4 + 4 * ((i / 4 + i % 4) % 4))) (range_with_len 0 16)

-- one column times 3 x ^ 3 + x ^ 2 + x + 2 modulo x ^ 4 + 1 (FIPS 197, 5.1.3)
unfoldable pub mix_column : ℕ → ℕ → ℕ → ℕ → List ℕ
mix_column a b c d =
    bit_xor (bit_xor (bit_xor (times 2 a) (times 3 b)) c) d
    ∷ bit_xor (bit_xor (bit_xor a (times 2 b)) (times 3 c)) d
    ∷ bit_xor (bit_xor (bit_xor a b) (times 2 c)) (times 3 d)
    ∷ bit_xor (bit_xor (bit_xor (times 3 a) b) c) (times 2 d) ∷ []

-- each of the four columns (FIPS 197, 5.1.3)
unfoldable pub mix_columns : List ℕ → List ℕ
mix_columns s =
    concat (map (λ c. mix_column (slice_index s (4 * c)) (slice_index s (4 * c + 1))
    (slice_index s (4 * c + 2)) (slice_index s (4 * c + 3))) (range_with_len 0 4))

-- octet by octet, as long as the shorter of the two
unfoldable pub xored : List ℕ → List ℕ → List ℕ
xored xs ys = zip2 bit_xor xs ys

-- the r-th round key of a key schedule
unfoldable pub round_key : List ℕ → ℕ → List ℕ
round_key w r = take 16 (drop (16 * r) w)

-- the state after the first r rounds, none of them the last, under the key schedule w (FIPS 197,
-- 5.1)
unfoldable pub rounds : List ℕ → List ℕ → ℕ → List ℕ
rounds w s zero = xored s (round_key w 0)
rounds w s (suc r) = xored (mix_columns (shift_rows (sub_bytes (rounds w s r))))
    (round_key w (suc r))

-- the cipher with n + 1 rounds; the last one mixes no columns
unfoldable pub cipher : List ℕ → ℕ → List ℕ → List ℕ
cipher w n s = xored (shift_rows (sub_bytes (rounds w s n))) (round_key w (n + 1))

-- the i-th word of a key schedule, of four octets
unfoldable pub word : List ℕ → ℕ → List ℕ
word w i = take 4 (drop (4 * i) w)

-- a word's octets, each moved by one place
unfoldable pub rot_word : List ℕ → List ℕ
rot_word w = slice_index w 1 ∷ slice_index w 2 ∷ slice_index w 3 ∷ slice_index w 0 ∷ []

-- x ^ k in GF(2 ^ 8)
unfoldable pub power_of_x : ℕ → ℕ
power_of_x zero = 1
power_of_x (suc k) = times_x (power_of_x k)

-- the j-th round constant, counted from 1 (FIPS 197, 5.2)
unfoldable pub round_constant : ℕ → List ℕ
round_constant j = power_of_x (j - 1) ∷ 0 ∷ 0 ∷ 0 ∷ []

-- what word i adds to the word nk before it, made of the word just before it, where the key has nk
-- words (FIPS 197, 5.2)
unfoldable pub changed_word : ℕ → ℕ → List ℕ → List ℕ
changed_word nk i before =
    if i % nk == 0 then xored (sub_bytes (rot_word before)) (round_constant (i / nk))
    else if nat_lt 6 nk && i % nk == 4 then sub_bytes before
    else before

-- the key, of nk words, and the n words that its expansion adds first (FIPS 197, 5.2)
unfoldable pub expanded : List ℕ → ℕ → ℕ → List ℕ
expanded key nk zero = key
expanded key nk (suc n) =
    let w = expanded key nk n in
    w ++ xored (word w n) (changed_word nk (n + nk) (word w (n + nk - 1)))

-- the key schedule of a key of nk words: nk + 7 round keys of four words
unfoldable pub schedule : List ℕ → List ℕ
schedule key = let nk = length key / 4 in expanded key nk (4 * (nk + 7) - nk)

-- the cipher under a key of 16 octets with 10 rounds, or of 32 with 14
unfoldable pub aes : List ℕ → List ℕ → List ℕ
aes key block = cipher (schedule key) (length key / 4 + 5) block
