-- A plaintext written piece by piece, and what is read from its end.
use Rattle.std.proofs.Common.{◌≡◌, ℕ, zero, suc, ◌+◌, ◌-◌, ◌%◌, ◌≤◌, true, false, not, if◌then◌else◌, List, [], ◌∷◌, ◌++◌, length, take, set, refl, sym, ap, ◌∙◌, append_assoc, arith}
use Rattle.std.proofs.lemmas.List.{take_more_set, take_at, length-append, length-set}
use Rattle.std.proofs.lemmas.Bool.Decides.{nat_tests}
use Rattle.std.specs.List.{range_with_len}
use Rattle.esp_packets.specs.Laws.{PaddingIsShortest}
use Rattle.esp_packets.specs.Packet.{is_padded, pad_length}

-- two octets written after the first n
take_two_set : (n : ℕ) (xs : List ℕ) (x y : ℕ) → n + 2 ≤ length xs → take (n + 2) (set (set xs n x) (n + 1) y) ≡ take n xs ++ x ∷ y ∷ []
take_two_set n xs x y h =
    let first : take (n + 1) (set xs n x) ≡ take n xs ++ x ∷ [] = take_more_set xs n x (omega arith) in
    let second : take (n + 1 + 1) (set (set xs n x) (n + 1) y) ≡ take (n + 1) (set xs n x) ++ y ∷ [] =
    take_more_set (set xs n x) (n + 1) y (omega (arith, length-set xs n x)) in
    let places : n + 1 + 1 ≡ n + 2 = omega arith in
    ap (λ k. take k (set (set xs n x) (n + 1) y)) (sym places) ∙ second ∙ ap (λ ys. ys ++ y ∷ []) first ∙ append_assoc (take n xs) (x ∷ []) (y ∷ [])

-- payload, padding and two octets, written one after another over other octets
pub written : (copied filled payload padding rest after : List ℕ) (end pad x y : ℕ) → copied ≡ payload → filled ≡ padding →
    length payload ≡ end → length padding ≡ pad → 2 ≤ length after →
    take (end + pad + 2) (set (set (take end (copied ++ rest) ++ (filled ++ after)) (end + pad) x) (end + pad + 1) y)
    ≡ payload ++ padding ++ x ∷ y ∷ []
written copied filled payload padding rest after end pad x y is pads long wide room =
    let begun : take end (payload ++ rest) ≡ payload = take_at payload rest end long in
    let both : length (payload ++ padding) ≡ end + pad = omega (arith, length-append payload padding) in
    let whole : end + pad + 2 ≤ length (payload ++ (padding ++ after)) = omega (arith, length-append payload (padding ++ after), length-append padding after) in
    let front : take (end + pad) (payload ++ (padding ++ after)) ≡ payload ++ padding =
    ap (take (end + pad)) (sym (append_assoc payload padding after)) ∙ take_at (payload ++ padding) after (end + pad) both in
    rw (is, pads, begun) (take_two_set (end + pad) (payload ++ (padding ++ after)) x y whole ∙ ap (λ ys. ys ++ x ∷ y ∷ []) front)

-- the lengths that are tried
tried : (n : ℕ) → pad_length n ≡ (if not (is_padded n 0) then 1 + (if not (is_padded n 1) then 1 + (if not (is_padded n 2) then 1 + (if not (is_padded n 3) then 1 + 0 else 0) else 0) else 0) else 0)
tried n = refl

-- the fewest octets of padding, by the remainder of the payload
pub pad_length_is : (n : ℕ) → pad_length n ≡ 3 - (n + 1) % 4
pad_length_is n = go (n % 4) refl
  where
    go : (r : ℕ) → n % 4 ≡ r → pad_length n ≡ 3 - (n + 1) % 4
    go zero e =
        let none : is_padded n 0 ≡ false = grind (arith, nat_tests) in
        let one : is_padded n 1 ≡ false = grind (arith, nat_tests) in
        let two : is_padded n 2 ≡ true = grind (arith, nat_tests) in
        tried n ∙ rw (none, one, two) (omega arith)
    go (suc zero) e =
        let none : is_padded n 0 ≡ false = grind (arith, nat_tests) in
        let one : is_padded n 1 ≡ true = grind (arith, nat_tests) in
        tried n ∙ rw (none, one) (omega arith)
    go (suc (suc zero)) e =
        let none : is_padded n 0 ≡ true = grind (arith, nat_tests) in
        tried n ∙ rw none (omega arith)
    go (suc (suc (suc zero))) e =
        let none : is_padded n 0 ≡ false = grind (arith, nat_tests) in
        let one : is_padded n 1 ≡ false = grind (arith, nat_tests) in
        let two : is_padded n 2 ≡ false = grind (arith, nat_tests) in
        let three : is_padded n 3 ≡ true = grind (arith, nat_tests) in
        tried n ∙ rw (none, one, two, three) (omega arith)
    go (suc (suc (suc (suc r)))) e = absurd (omega arith)

pub padding_shortest : PaddingIsShortest
padding_shortest n = (omega (arith, pad_length_is n), λ pad h. omega (arith, pad_length_is n))

-- the padding octets count up from 1
pub padding_is : (pad : ℕ) → pad ≤ 3 → take pad (1 ∷ 2 ∷ 3 ∷ []) ≡ range_with_len 1 pad
padding_is zero h = refl
padding_is (suc zero) h = refl
padding_is (suc (suc zero)) h = refl
padding_is (suc (suc (suc zero))) h = refl
padding_is (suc (suc (suc (suc n)))) h = absurd (omega arith)

pub length-range_with_len : (a n : ℕ) → length (range_with_len a n) ≡ n
length-range_with_len a zero = refl
length-range_with_len a (suc n) = ap suc (length-range_with_len (a + 1) n)
