-- The key expansion.
use Rattle.std.proofs.Common.{◌≡◌, ◌≢◌, ℕ, zero, suc, ◌+◌, ◌-◌, ◌*◌, ◌/◌, ◌%◌, ◌<◌, ◌≤◌, ◌⊎◌, List, [], ◌∷◌, ◌++◌, map, length, get_or, take, drop, refl, sym, ap, ◌∙◌, arith}
use Rattle.std.specs.List.{range_with_len}
use Rattle.std.proofs.lemmas.List.{take-take, drop-take, take-append-le, length-append, take_all}
use Rattle.std.proofs.lemmas.Bool.Decides.{nat_tests}
use Rattle.std.proofs.lemmas.List.FromFn.{get_or-map-range_with_len}
use Rattle.aes_gcm.specs.Aes.{xored, sub_bytes, rot_word, word, power_of_x, round_constant, changed_word, expanded, schedule}

powers_all : map (λ k. get_or (1 ∷ 2 ∷ 4 ∷ 8 ∷ 16 ∷ 32 ∷ 64 ∷ 128 ∷ 27 ∷ 54 ∷ []) k 0) (range_with_len 0 10) ≡ map power_of_x (range_with_len 0 10)
unfolding power_of_x
powers_all = refl

pub powers_are : (k : ℕ) → k < 10 → get_or (1 ∷ 2 ∷ 4 ∷ 8 ∷ 16 ∷ 32 ∷ 64 ∷ 128 ∷ 27 ∷ 54 ∷ []) k 0 ≡ power_of_x k
powers_are k h =
    sym (get_or-map-range_with_len (λ k. get_or (1 ∷ 2 ∷ 4 ∷ 8 ∷ 16 ∷ 32 ∷ 64 ∷ 128 ∷ 27 ∷ 54 ∷ []) k 0) 0 10 k k 0 h (omega arith)) ∙ ap (λ xs. get_or xs k 0) powers_all ∙ get_or-map-range_with_len power_of_x 0 10 k k 0 h (omega arith)

pub changed_at_key : (nk i : ℕ) (before : List ℕ) → i % nk ≡ 0 → changed_word nk i before ≡ xored (sub_bytes (rot_word before)) (round_constant (i / nk))
unfolding changed_word
changed_at_key nk i before h = rw h

pub changed_at_half : (nk i : ℕ) (before : List ℕ) → 6 < nk → i % nk ≡ 4 → changed_word nk i before ≡ sub_bytes before
unfolding changed_word
changed_at_half nk i before wide h = grind (arith, nat_tests)

pub unchanged : (nk i : ℕ) (before : List ℕ) → i % nk ≢ 0 → (6 < nk → i % nk ≢ 4) → changed_word nk i before ≡ before
unfolding changed_word
unchanged nk i before first second = grind (arith, nat_tests)

pub expanded_more : (key : List ℕ) (nk i : ℕ) → nk ≤ i → expanded key nk (i + 1 - nk) ≡ expanded key nk (i - nk) ++ xored (word (expanded key nk (i - nk)) (i - nk)) (changed_word nk i (word (expanded key nk (i - nk)) (i - 1)))
unfolding expanded
expanded_more key nk i h =
    let next : i + 1 - nk ≡ suc (i - nk) = omega arith in
    let back : i - nk + nk ≡ i = omega arith in
    rw (next, back)

-- a word of a list that goes on after it
pub word-take : (w : List ℕ) (i j : ℕ) → j < i → word (take (4 * i) w) j ≡ word w j
unfolding word
word-take w i j h =
    let split : 4 * i ≡ 4 * j + (4 * i - 4 * j) = omega arith in
    rw split (rw (drop-take (4 * j) (4 * i - 4 * j) w) (take-take 4 (4 * i - 4 * j) (drop (4 * j) w) (omega arith)))

longer : (key : List ℕ) (nk n : ℕ) → length key ≤ length (expanded key nk n)
unfolding expanded
longer key nk zero = omega arith
longer key nk (suc n) =
    let w = expanded key nk n in
    let add = length-append w (xored (word w n) (changed_word nk (n + nk) (word w (n + nk - 1)))) in
    omega (arith, longer key nk n, add)

-- a schedule begins with its key
pub begins : (key : List ℕ) (nk n : ℕ) → take (length key) (expanded key nk n) ≡ key
unfolding expanded
begins key nk zero = take_all (length key) key (omega arith)
begins key nk (suc n) =
    let w = expanded key nk n in
    take-append-le (length key) w (xored (word w n) (changed_word nk (n + nk) (word w (n + nk - 1)))) (longer key nk n) ∙ begins key nk n

-- the first turn of the expansion: the words are the key
pub expanded_none : (key w : List ℕ) → (length key ≡ 16) ⊎ (length key ≡ 32) → take (length key) w ≡ key → take (4 * (length key / 4)) w ≡ expanded key (length key / 4) (length key / 4 - length key / 4)
unfolding expanded
expanded_none key w size begun =
    let none : length key / 4 - length key / 4 ≡ 0 = omega arith in
    let words : 4 * (length key / 4) ≡ length key = omega arith in
    rw (none, words) begun

pub expanded_step : (key w next : List ℕ) (nk i : ℕ) → 0 < nk → nk ≤ i → take (4 * i) w ≡ expanded key nk (i - nk) → next ≡ xored (word w (i - nk)) (changed_word nk i (word w (i - 1))) → take (4 * i) w ++ next ≡ expanded key nk (i + 1 - nk)
expanded_step key w next nk i some after sofar e =
    let back = sym (word-take w i (i - nk) (omega arith)) ∙ ap (λ x. word x (i - nk)) sofar in
    let before = sym (word-take w i (i - 1) (omega arith)) ∙ ap (λ x. word x (i - 1)) sofar in
    cc (expanded_more key nk i after, back, before, sofar, e)

pub expanded_all : (key : List ℕ) (i : ℕ) (w : List ℕ) → i ≡ 4 * (length key / 4 + 7) → take (4 * i) w ≡ expanded key (length key / 4) (i - length key / 4) → take (16 * (length key / 4 + 7)) w ≡ schedule key
unfolding schedule
expanded_all key i w e sofar =
    let octets : 16 * (length key / 4 + 7) ≡ 4 * i = omega arith in
    rw octets (sofar ∙ ap (λ n. expanded key (length key / 4) (n - length key / 4)) e)
