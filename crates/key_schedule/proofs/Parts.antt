-- A list and its parts, one behind the other.
use Rattle.std.proofs.Common.{◌≡◌, ℕ, ◌+◌, ◌-◌, ◌≤◌, List, ◌++◌, length, take, drop, take_at, drop_at, take_all, ◌∙◌, sym, ap, arith}
use Rattle.std.specs.Prelude.{slice_range}
use Rattle.std.proofs.Math.Seq.{take-add}
use borrow.Rule.Slice.PartMut.{put_mid}

-- what is written over the front of the second part of a list
pub put_mid-append : (xs zs ys : List ℕ) (a k : ℕ) → length xs ≡ a → put_mid a k (xs ++ zs) ys ≡ xs ++ (ys ++ drop k zs)
put_mid-append xs zs ys a k long = λ i. take_at xs zs a long i ++ (ys ++ drop k (drop_at xs zs a long i))

-- a front and the part behind it
front_and_part : (xs : List ℕ) (a b : ℕ) → a ≤ b → take a xs ++ slice_range xs a b ≡ take b xs
front_and_part xs a b le =
    let there : a + (b - a) ≡ b = omega arith in
    sym (take-add a (b - a) xs) ∙ ap (λ n. take n xs) there

-- five parts of a list that has no more
pub five_parts : (xs : List ℕ) (a b c d e : ℕ) → a ≤ b → b ≤ c → c ≤ d → d ≤ e → length xs ≤ e
    → take a xs ++ slice_range xs a b ++ slice_range xs b c ++ slice_range xs c d ++ slice_range xs d e ≡ xs
five_parts xs a b c d e ab bc cd de all =
    (λ i. front_and_part xs a b ab i ++ slice_range xs b c ++ slice_range xs c d ++ slice_range xs d e)
    ∙ (λ i. front_and_part xs b c bc i ++ slice_range xs c d ++ slice_range xs d e)
    ∙ (λ i. front_and_part xs c d cd i ++ slice_range xs d e)
    ∙ front_and_part xs d e de
    ∙ take_all e xs all

-- two parts of a list that has no more
pub two_parts : (xs : List ℕ) (a b : ℕ) → a ≤ b → length xs ≤ b → take a xs ++ slice_range xs a b ≡ xs
two_parts xs a b ab all = front_and_part xs a b ab ∙ take_all b xs all
