-- GHASH: the product bit by bit, and blocks that zeros complete.
use Rattle.std.proofs.Common.{◌≡◌, ℕ, zero, suc, ◌+◌, ◌-◌, ◌*◌, ◌/◌, ◌%◌, ◌^◌, ◌<◌, ◌≤◌, List, ◌++◌, length, take, drop, refl, sym, ap, ◌∙◌, add-one, add-zero, add-suc, arith, ⊎_elim}
use Rattle.std.specs.Prelude.{replicate, min}
use Rattle.std.proofs.lemmas.List.{length-take, length-drop, length-append, length-replicate, drop-append-le, take-append-le, take_all, append-nil}
use Rattle.std.proofs.lemmas.Bool.{cases_lt}
use Rattle.std.proofs.Math.Seq.{drop-append-add}
use Rattle.std.specs.Int.{w64, to_be_bytes}
use Rattle.std.specs.Int.Bits.{bit_xor, xor_assoc}
use Rattle.aes_gcm.specs.Gcm.{next_power, product_low, product, element, block_at, block_count, padded_to_blocks, hashed_from, ghash, hashed_text}

pub product_more : (i a v sum : ℕ) → i < 128 → bit_xor (bit_xor sum (a / 2 ^ (127 - i) % 2 * v)) (product_low (128 - (i + 1)) a (next_power v)) ≡ bit_xor sum (product_low (128 - i) a v)
unfolding product_low
product_more i a v sum h =
    let left : 128 - (i + 1) ≡ 127 - i = omega arith in
    let now : 128 - i ≡ suc (127 - i) = omega arith in
    rw (left, now) (xor_assoc sum (a / 2 ^ (127 - i) % 2 * v) (product_low (127 - i) a (next_power v)))

pub hashed_more : (h y : ℕ) (xs : List ℕ) (i : ℕ) → hashed_from h y xs (i + 1) ≡ product (bit_xor (hashed_from h y xs i) (element (block_at xs i))) h
unfolding hashed_from
hashed_more h y xs i = rw add-one

-- a whole block of a list that zeros complete
whole_block : (xs zs : List ℕ) (i : ℕ) → 16 * i + 16 ≤ length xs → take 16 (drop (16 * i) (xs ++ zs)) ≡ take 16 (drop (16 * i) xs)
whole_block xs zs i h =
    rw (drop-append-le (16 * i) xs zs (omega arith)) (take-append-le 16 (drop (16 * i) xs) zs (omega (arith, length-drop (16 * i) xs)))

-- the last block of a list that zeros complete
last_block : (xs : List ℕ) (i n : ℕ) → 16 * i ≤ length xs → length xs + n ≡ 16 * i + 16 → take 16 (drop (16 * i) (xs ++ replicate n 0)) ≡ drop (16 * i) xs ++ replicate n 0
last_block xs i n begun full =
    rw (drop-append-le (16 * i) xs (replicate n 0) begun) (take_all 16 (drop (16 * i) xs ++ replicate n 0) (omega (arith, length-append (drop (16 * i) xs) (replicate n 0), length-drop (16 * i) xs, length-replicate {A = ℕ} n 0)))

-- a block of a list that zeros complete
pub block_at-padded : (xs : List ℕ) (i e : ℕ) → e ≡ min (length xs) (16 * i + 16) → i < (length xs + 15) / 16 → block_at (padded_to_blocks xs) i ≡ take (e - 16 * i) (drop (16 * i) xs) ++ replicate (16 - length (take (e - 16 * i) (drop (16 * i) xs))) 0
unfolding block_at padded_to_blocks block_count
block_at-padded xs i e end within =
    ⊎_elim (λ h.
    let count : 16 * ((length xs + 15) / 16) - length xs ≡ 16 * i + 16 - length xs = omega arith in
    let width : e - 16 * i ≡ length xs - 16 * i = omega arith in
    let all : take (length xs - 16 * i) (drop (16 * i) xs) ≡ drop (16 * i) xs = take_all (length xs - 16 * i) (drop (16 * i) xs) (omega (arith, length-drop (16 * i) xs)) in
    let zeros : 16 - length (drop (16 * i) xs) ≡ 16 * i + 16 - length xs = omega (arith, length-drop (16 * i) xs) in
    rw (count, width, all, zeros) (last_block xs i (16 * i + 16 - length xs) (omega arith) (omega arith))) (λ h.
    let width : e - 16 * i ≡ 16 = omega arith in
    let long : length (take 16 (drop (16 * i) xs)) ≡ 16 = omega (arith, length-take 16 (drop (16 * i) xs), length-drop (16 * i) xs) in
    rw (width, long) (whole_block xs (replicate (16 * ((length xs + 15) / 16) - length xs) 0) i h ∙ sym (append-nil (take 16 (drop (16 * i) xs))))) (cases_lt (length xs) (16 * i + 16))

-- the blocks of whole blocks, in a list that goes on after them
hashed-front : (h y : ℕ) (xs ys : List ℕ) (m n : ℕ) → length xs ≡ 16 * m → n ≤ m → hashed_from h y (xs ++ ys) n ≡ hashed_from h y xs n
unfolding hashed_from block_at
hashed-front h y xs ys m zero long within = refl
hashed-front h y xs ys m (suc n) long within =
    let before = hashed-front h y xs ys m n long (omega arith) in
    let block = whole_block xs ys n (omega arith) in
    λ i. product (bit_xor (before i) (element (block i))) h

-- whole blocks and then the rest
pub hashed-append : (h y : ℕ) (xs ys : List ℕ) (m n : ℕ) → length xs ≡ 16 * m → hashed_from h y (xs ++ ys) (m + n) ≡ hashed_from h (hashed_from h y xs m) ys n
unfolding hashed_from block_at
hashed-append h y xs ys m zero long = rw add-zero (hashed-front h y xs ys m m long (omega arith))
hashed-append h y xs ys m (suc n) long =
    let before = hashed-append h y xs ys m n long in
    let place : 16 * (m + n) ≡ length xs + 16 * n = omega arith in
    let block = ap (λ k. take 16 (drop k (xs ++ ys))) place ∙ ap (take 16) (drop-append-add xs ys (16 * n)) in
    rw add-suc (λ i. product (bit_xor (before i) (element (block i))) h)

length-padded : (xs : List ℕ) → length (padded_to_blocks xs) ≡ 16 * block_count (length xs)
unfolding padded_to_blocks block_count
length-padded xs =
    omega (arith, length-append xs (replicate (16 * ((length xs + 15) / 16) - length xs) 0), length-replicate {A = ℕ} (16 * ((length xs + 15) / 16) - length xs) 0)

-- the hash of three texts, each completed by zeros, the last of them one block
hashed_three : (h : ℕ) (xs ys zs : List ℕ) → length zs ≡ 16 → ghash h (padded_to_blocks xs ++ padded_to_blocks ys ++ zs) ≡ hashed_from h (hashed_from h (hashed_from h 0 (padded_to_blocks xs) (block_count (length xs))) (padded_to_blocks ys) (block_count (length ys))) zs 1
unfolding ghash
hashed_three h xs ys zs long =
    let a = block_count (length xs) in
    let b = block_count (length ys) in
    let first = length-padded xs in
    let second = length-padded ys in
    let both : length (padded_to_blocks xs ++ padded_to_blocks ys) ≡ 16 * (a + b) = omega (arith, length-append (padded_to_blocks xs) (padded_to_blocks ys)) in
    let count : length (padded_to_blocks xs ++ padded_to_blocks ys ++ zs) / 16 ≡ a + b + 1 = omega (arith, length-append (padded_to_blocks xs ++ padded_to_blocks ys) zs) in
    ap (hashed_from h 0 (padded_to_blocks xs ++ padded_to_blocks ys ++ zs)) count
    ∙ hashed-append h 0 (padded_to_blocks xs ++ padded_to_blocks ys) zs (a + b) 1 both
    ∙ ap (λ y. hashed_from h y zs 1) (hashed-append h 0 (padded_to_blocks xs) (padded_to_blocks ys) a b first)

pub hashed_text_is : (h : ℕ) (aad text : List ℕ) → ghash h (hashed_text aad text) ≡ hashed_from h (hashed_from h (hashed_from h 0 (padded_to_blocks aad) (block_count (length aad))) (padded_to_blocks text) (block_count (length text))) (padded_to_blocks (to_be_bytes w64 (8 * length aad) ++ to_be_bytes w64 (8 * length text))) 1
unfolding hashed_text padded_to_blocks block_count
hashed_text_is h aad text =
    hashed_three h aad text (to_be_bytes w64 (8 * length aad) ++ to_be_bytes w64 (8 * length text)) refl
