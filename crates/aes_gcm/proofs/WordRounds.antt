-- A state as four words, and the rounds on it by tables.
use Rattle.std.proofs.Common.{◌≡◌, ℕ, zero, suc, ◌+◌, ◌*◌, ◌/◌, ◌%◌, ◌^◌, ◌<◌, ◌≤◌, List, [], ◌∷◌, ◌++◌, map, length, take, drop, get_or, refl, sym, ap, ◌∙◌, arith}
use Rattle.std.specs.List.{range_with_len}
use Rattle.std.specs.Int.{w32, to_le_bytes, from_le_bytes}
use Rattle.std.specs.Int.Bits.{bit_and, bit_xor, xor_zero_l, xor_zero_r}
use Rattle.std.proofs.lemmas.List.{ext_get_or, drop-drop}
use Rattle.std.proofs.lemmas.List.FromFn.{get_or-map-range_with_len, length-map-range_with_len}
use Rattle.std.proofs.lemmas.Nat.{xor_shr, xor_mod, le_bytes_4}
use Rattle.std.proofs.lemmas.Simd.{get_or-chunk, length-chunk}
use lib.Lanes.{chunk}
use Rattle.aes_gcm.proofs.OctetLaws.{same_below}
use Rattle.std.proofs.Math.Seq.{take-add}
use Rattle.aes_gcm.specs.declared.rows.TheConstants.{ROWS}
use Rattle.aes_gcm.specs.Columns.{from_row_2, from_row_3}
use Rattle.aes_gcm.specs.Aes.{times_low, times, inverse_below, inverse, affine, sub_byte, xored, word, round_key, mix_column}

-- a list of n numbers is its places
pub spelled : (n : ℕ) (xs : List ℕ) → length xs ≡ n → xs ≡ map (λ i. get_or xs i 0) (range_with_len 0 n)
spelled n xs long =
    ext_get_or 0 xs (map (λ i. get_or xs i 0) (range_with_len 0 n)) (long ∙ sym (length-map-range_with_len (λ i. get_or xs i 0) 0 n)) (λ k h. sym (get_or-map-range_with_len (λ i. get_or xs i 0) 0 n k k 0 (omega arith) (omega arith)))

octet_of_xor : (x y k : ℕ) → bit_xor x y / 2 ^ k % 256 ≡ bit_xor (x / 2 ^ k % 256) (y / 2 ^ k % 256)
octet_of_xor x y k = ap (λ z. z % 256) (xor_shr x y k) ∙ xor_mod (x / 2 ^ k) (y / 2 ^ k) 8

-- words are joined octet by octet
pub word_of_xor : (x y : ℕ) → to_le_bytes w32 (bit_xor x y) ≡ xored (to_le_bytes w32 x) (to_le_bytes w32 y)
unfolding xored
word_of_xor x y =
    λ i. xor_mod x y 8 i ∷ octet_of_xor x y 8 i ∷ octet_of_xor x y 16 i ∷ octet_of_xor x y 24 i ∷ []

pub words_of_xor : (a b c d e f g h : ℕ) → to_le_bytes w32 (bit_xor a e) ++ to_le_bytes w32 (bit_xor b f) ++ to_le_bytes w32 (bit_xor c g) ++ to_le_bytes w32 (bit_xor d h) ≡ xored (to_le_bytes w32 a ++ to_le_bytes w32 b ++ to_le_bytes w32 c ++ to_le_bytes w32 d) (to_le_bytes w32 e ++ to_le_bytes w32 f ++ to_le_bytes w32 g ++ to_le_bytes w32 h)
unfolding xored
words_of_xor a b c d e f g h =
    λ i. word_of_xor a e i ++ word_of_xor b f i ++ word_of_xor c g i ++ word_of_xor d h i

small_4 : (a b c d : ℕ) → a < 256 → b < 256 → c < 256 → d < 256 → (i : ℕ) → get_or (a ∷ b ∷ c ∷ d ∷ []) i 0 < 256
small_4 a b c d p q r s zero = p
small_4 a b c d p q r s (suc zero) = q
small_4 a b c d p q r s (suc (suc zero)) = r
small_4 a b c d p q r s (suc (suc (suc zero))) = s
small_4 a b c d p q r s (suc (suc (suc (suc i)))) = omega arith

-- the octets of the word that four octets make
pub octets_of_word : (a b c d n : ℕ) → a < 256 → b < 256 → c < 256 → d < 256 → n ≡ from_le_bytes w32 (a ∷ b ∷ c ∷ d ∷ []) → to_le_bytes w32 n ≡ a ∷ b ∷ c ∷ d ∷ []
octets_of_word a b c d n p q r s e =
    le_bytes_4 (a ∷ b ∷ c ∷ d ∷ []) n refl (small_4 a b c d p q r s) e

-- the octets of a word of the schedule
pub word_places : (w : List ℕ) (i : ℕ) → 4 * i + 4 ≤ length w → get_or w (4 * i) 0 ∷ get_or w (4 * i + 1) 0 ∷ get_or w (4 * i + 2) 0 ∷ get_or w (4 * i + 3) 0 ∷ [] ≡ word w i
unfolding word
word_places w i h =
    let first : 4 * i + 0 ≡ 4 * i = omega arith in
    let places = λ (k : ℕ) (b : k < 4). get_or-chunk (4 * i) 4 w k 0 b in
    sym (spelled 4 (chunk (4 * i) 4 w) (length-chunk (4 * i) 4 w h) ∙ (λ j. (places 0 (omega arith) ∙ ap (λ k. get_or w k 0) first) j ∷ places 1 (omega arith) j ∷ places 2 (omega arith) j ∷ places 3 (omega arith) j ∷ []))

-- a round key is four words of the schedule
pub round_key_words : (w : List ℕ) (r : ℕ) → word w (4 * r) ++ word w (4 * r + 1) ++ word w (4 * r + 2) ++ word w (4 * r + 3) ≡ round_key w r
unfolding word round_key
round_key_words w r =
    let from = drop (16 * r) w in
    let at_0 : 4 * (4 * r) ≡ 16 * r = omega arith in
    let at_1 : 4 * (4 * r + 1) ≡ 16 * r + 4 = omega arith in
    let at_2 : 4 * (4 * r + 2) ≡ 16 * r + 8 = omega arith in
    let at_3 : 4 * (4 * r + 3) ≡ 16 * r + 12 = omega arith in
    let parts = take-add 12 4 from ∙ ap (λ t. t ++ take 4 (drop 12 from)) (take-add 8 4 from ∙ ap (λ t. t ++ take 4 (drop 8 from)) (take-add 4 4 from)) in
    rw (at_0, at_1, at_2, at_3) ((λ i. take 4 from ++ take 4 (sym (drop-drop 4 (16 * r) w) i) ++ take 4 (sym (drop-drop 8 (16 * r) w) i) ++ take 4 (sym (drop-drop 12 (16 * r) w) i)) ∙ sym parts)

from_row_0 : ℕ → List ℕ
from_row_0 s = times 2 s ∷ s ∷ s ∷ times 3 s ∷ []

from_row_1 : ℕ → List ℕ
from_row_1 s = times 3 s ∷ times 2 s ∷ s ∷ s ∷ []

all_0 : map (λ a. to_le_bytes w32 (get_or ROWS a 0)) (range_with_len 0 256) ≡ map (λ a. from_row_0 (sub_byte a)) (range_with_len 0 256)
unfolding from_row_0 sub_byte affine inverse inverse_below times times_low
all_0 = refl

all_1 : map (λ a. to_le_bytes w32 (get_or ROWS (256 + a) 0)) (range_with_len 0 256) ≡ map (λ a. from_row_1 (sub_byte a)) (range_with_len 0 256)
unfolding from_row_1 sub_byte affine inverse inverse_below times times_low
all_1 = refl

all_2 : map (λ a. to_le_bytes w32 (get_or ROWS (512 + a) 0)) (range_with_len 0 256) ≡ map (λ a. from_row_2 (sub_byte a)) (range_with_len 0 256)
unfolding from_row_2 sub_byte affine inverse inverse_below times times_low
all_2 = refl

all_3 : map (λ a. to_le_bytes w32 (get_or ROWS (768 + a) 0)) (range_with_len 0 256) ≡ map (λ a. from_row_3 (sub_byte a)) (range_with_len 0 256)
unfolding from_row_3 sub_byte affine inverse inverse_below times times_low
all_3 = refl

-- what one octet adds to a column
pub row_2_is : (a : ℕ) → a < 256 → to_le_bytes w32 (get_or ROWS (512 + a) 0) ≡ from_row_2 (sub_byte a)
row_2_is a h = same_below [] (λ a. to_le_bytes w32 (get_or ROWS (512 + a) 0)) (λ a. from_row_2 (sub_byte a)) all_2 a h

pub row_3_is : (a : ℕ) → a < 256 → to_le_bytes w32 (get_or ROWS (768 + a) 0) ≡ from_row_3 (sub_byte a)
row_3_is a h = same_below [] (λ a. to_le_bytes w32 (get_or ROWS (768 + a) 0)) (λ a. from_row_3 (sub_byte a)) all_3 a h

-- the column that four octets of a state become
pub mixed_is : (a b c d : ℕ) → a < 256 → b < 256 → c < 256 → d < 256 → to_le_bytes w32 (bit_xor (bit_xor (bit_xor (get_or ROWS a 0) (get_or ROWS (256 + b) 0)) (get_or ROWS (512 + c) 0)) (get_or ROWS (768 + d) 0)) ≡ mix_column (sub_byte a) (sub_byte b) (sub_byte c) (sub_byte d)
unfolding from_row_0 from_row_1 from_row_2 from_row_3 xored mix_column
mixed_is a b c d a8 b8 c8 d8 =
    let first = same_below [] (λ a. to_le_bytes w32 (get_or ROWS a 0)) (λ a. from_row_0 (sub_byte a)) all_0 a a8 in
    let second = same_below [] (λ a. to_le_bytes w32 (get_or ROWS (256 + a) 0)) (λ a. from_row_1 (sub_byte a)) all_1 b b8 in
    let third = same_below [] (λ a. to_le_bytes w32 (get_or ROWS (512 + a) 0)) (λ a. from_row_2 (sub_byte a)) all_2 c c8 in
    let fourth = same_below [] (λ a. to_le_bytes w32 (get_or ROWS (768 + a) 0)) (λ a. from_row_3 (sub_byte a)) all_3 d d8 in
    word_of_xor (bit_xor (bit_xor (get_or ROWS a 0) (get_or ROWS (256 + b) 0)) (get_or ROWS (512 + c) 0)) (get_or ROWS (768 + d) 0)
    ∙ ap (λ t. xored t (to_le_bytes w32 (get_or ROWS (768 + d) 0))) (word_of_xor (bit_xor (get_or ROWS a 0) (get_or ROWS (256 + b) 0)) (get_or ROWS (512 + c) 0) ∙ ap (λ t. xored t (to_le_bytes w32 (get_or ROWS (512 + c) 0))) (word_of_xor (get_or ROWS a 0) (get_or ROWS (256 + b) 0)))
    ∙ (λ i. xored (xored (xored (first i) (second i)) (third i)) (fourth i))

only_0 : ℕ → List ℕ
only_0 s = s ∷ 0 ∷ 0 ∷ 0 ∷ []

only_1 : ℕ → List ℕ
only_1 s = 0 ∷ s ∷ 0 ∷ 0 ∷ []

only_2 : ℕ → List ℕ
only_2 s = 0 ∷ 0 ∷ s ∷ 0 ∷ []

only_3 : ℕ → List ℕ
only_3 s = 0 ∷ 0 ∷ 0 ∷ s ∷ []

all_only_0 : map (λ a. to_le_bytes w32 (bit_and (get_or ROWS (512 + a) 0) 0xff)) (range_with_len 0 256) ≡ map (λ a. only_0 (sub_byte a)) (range_with_len 0 256)
unfolding only_0 sub_byte affine inverse inverse_below times times_low
all_only_0 = refl

all_only_1 : map (λ a. to_le_bytes w32 (bit_and (get_or ROWS (768 + a) 0) 0xff00)) (range_with_len 0 256) ≡ map (λ a. only_1 (sub_byte a)) (range_with_len 0 256)
unfolding only_1 sub_byte affine inverse inverse_below times times_low
all_only_1 = refl

all_only_2 : map (λ a. to_le_bytes w32 (bit_and (get_or ROWS a 0) 0xff0000)) (range_with_len 0 256) ≡ map (λ a. only_2 (sub_byte a)) (range_with_len 0 256)
unfolding only_2 sub_byte affine inverse inverse_below times times_low
all_only_2 = refl

all_only_3 : map (λ a. to_le_bytes w32 (bit_and (get_or ROWS (256 + a) 0) 0xff000000)) (range_with_len 0 256) ≡ map (λ a. only_3 (sub_byte a)) (range_with_len 0 256)
unfolding only_3 sub_byte affine inverse inverse_below times times_low
all_only_3 = refl

-- four octets, each with zeros at the others' places, are joined
joined : (p q r s : ℕ) → xored (xored (xored (only_0 p) (only_1 q)) (only_2 r)) (only_3 s) ≡ p ∷ q ∷ r ∷ s ∷ []
unfolding xored only_0 only_1 only_2 only_3
joined p q r s =
    λ i. (xor_zero_r (bit_xor (bit_xor p 0) 0) ∙ xor_zero_r (bit_xor p 0) ∙ xor_zero_r p) i
    ∷ (xor_zero_r (bit_xor (bit_xor 0 q) 0) ∙ xor_zero_r (bit_xor 0 q) ∙ xor_zero_l q) i
    ∷ (xor_zero_r (bit_xor (bit_xor 0 0) r) ∙ xor_zero_l r) i
    ∷ xor_zero_l s i ∷ []

-- the column that four octets become in the last round
pub substituted_is : (a b c d : ℕ) → a < 256 → b < 256 → c < 256 → d < 256 → to_le_bytes w32 (bit_xor (bit_xor (bit_xor (bit_and (get_or ROWS (512 + a) 0) 0xff) (bit_and (get_or ROWS (768 + b) 0) 0xff00)) (bit_and (get_or ROWS c 0) 0xff0000)) (bit_and (get_or ROWS (256 + d) 0) 0xff000000)) ≡ sub_byte a ∷ sub_byte b ∷ sub_byte c ∷ sub_byte d ∷ []
substituted_is a b c d a8 b8 c8 d8 =
    let w = bit_and (get_or ROWS (512 + a) 0) 0xff in
    let x = bit_and (get_or ROWS (768 + b) 0) 0xff00 in
    let y = bit_and (get_or ROWS c 0) 0xff0000 in
    let z = bit_and (get_or ROWS (256 + d) 0) 0xff000000 in
    let first = same_below [] (λ a. to_le_bytes w32 (bit_and (get_or ROWS (512 + a) 0) 0xff)) (λ a. only_0 (sub_byte a)) all_only_0 a a8 in
    let second = same_below [] (λ a. to_le_bytes w32 (bit_and (get_or ROWS (768 + a) 0) 0xff00)) (λ a. only_1 (sub_byte a)) all_only_1 b b8 in
    let third = same_below [] (λ a. to_le_bytes w32 (bit_and (get_or ROWS a 0) 0xff0000)) (λ a. only_2 (sub_byte a)) all_only_2 c c8 in
    let fourth = same_below [] (λ a. to_le_bytes w32 (bit_and (get_or ROWS (256 + a) 0) 0xff000000)) (λ a. only_3 (sub_byte a)) all_only_3 d d8 in
    word_of_xor (bit_xor (bit_xor w x) y) z
    ∙ ap (λ t. xored t (to_le_bytes w32 z)) (word_of_xor (bit_xor w x) y ∙ ap (λ t. xored t (to_le_bytes w32 y)) (word_of_xor w x))
    ∙ (λ i. xored (xored (xored (first i) (second i)) (third i)) (fourth i))
    ∙ joined (sub_byte a) (sub_byte b) (sub_byte c) (sub_byte d)
