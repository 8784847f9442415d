-- When two lists of octets have no bit that differs.
use Rattle.std.proofs.Common.{◌≡◌, ℕ, ◌≤◌, List, [], ◌∷◌, length, ◌∙◌, ap, subst, refl, arith}
use Rattle.std.specs.Prelude.{fold, bit_or, bit_xor}
use Rattle.std.specs.List.{zip}
use Rattle.std.proofs.lemmas.Nat.{le_or_l, le_or_r}
use lib.Bits.{xor_self, or_zero_l}
use Rattle.ha_base.proofs.Bits.{same_from_xor}
use Rattle.key_schedule.specs.Codes.{difference_of}

-- the bits in which two lists differ, beside those of a start
abbrev gathered : ℕ → List ℕ → List ℕ → ℕ
gathered start a b = fold (λ bits (pair : ℕ × ℕ). bit_or bits (bit_xor pair.0 pair.1)) start (zip a b)

start_le-gathered : (start : ℕ) (a b : List ℕ) → start ≤ gathered start a b
start_le-gathered start [] b = omega arith
start_le-gathered start (x ∷ a) [] = omega arith
start_le-gathered start (x ∷ a) (y ∷ b) =
    omega (arith, start_le-gathered (bit_or start (bit_xor x y)) a b, le_or_l start (bit_xor x y))

same_from_gathered : (start : ℕ) (a b : List ℕ) → length a ≡ length b → gathered start a b ≡ 0 → a ≡ b
same_from_gathered start [] [] long none = refl
same_from_gathered start [] (y ∷ b) long none = absurd (omega arith)
same_from_gathered start (x ∷ a) [] long none = absurd (omega arith)
same_from_gathered start (x ∷ a) (y ∷ b) long none =
    let bits = bit_or start (bit_xor x y) in
    let same : bit_xor x y ≡ 0 =
    omega (arith, start_le-gathered bits a b, le_or_r start (bit_xor x y), none) in
    λ i. same_from_xor x y same i ∷ same_from_gathered bits a b (omega arith) none i

gathered_none : (a : List ℕ) → gathered 0 a a ≡ 0
gathered_none [] = refl
gathered_none (x ∷ a) =
    ap (λ bits. gathered bits a a) (ap (bit_or 0) (xor_self x) ∙ or_zero_l 0) ∙ gathered_none a

-- lists of one length are the same where no bit differs
pub same_from_difference : (a b : List ℕ) → length a ≡ length b → difference_of a b ≡ 0 → a ≡ b
same_from_difference a b long none = same_from_gathered 0 a b long none

pub difference-same : (a b : List ℕ) → a ≡ b → difference_of a b ≡ 0
difference-same a b same = subst (λ c. difference_of a c ≡ 0) same (gathered_none a)
