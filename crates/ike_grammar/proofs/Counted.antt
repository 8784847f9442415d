-- This many items, as a loop reads them. Reading is a family over how many are left.
use Rattle.std.proofs.Common.{◌≡◌, ℕ, suc, List, [], ◌∷◌, ◌++◌, Result, Ok, Err, refl, sym, ap, ◌∙◌, append_assoc}
use Rattle.std.proofs.lemmas.List.{append-nil}
use Rattle.ike_values.specs.declared.fault.Bad.{Bad}
use Rattle.ike_grammar.specs.declared.fault.Unread.{Unread}
use Rattle.ike_grammar.specs.declared.fault.Unread.TheVariants as unread
use Rattle.ike_grammar.specs.Faults.{◌>>=◌, Fails}

-- How all reads n items and one reads the first of them, where k are left behind it.
pub record Counts {X : Type 0} (one : ℕ → List ℕ → Result (X × List ℕ) Bad) (all : ℕ → List ℕ → Result (List X × List ℕ) Bad) : Type 0 where
  pub none : (bytes : List ℕ) → all 0 bytes ≡ Ok ([], bytes)
  pub more : (k : ℕ) (bytes : List ℕ) → all (suc k) bytes ≡ (one k bytes >>= λ first. all k first.1 >>= λ others. Ok (first.0 ∷ others.0, others.1))

-- the items before, and those that are read
abbrev pub with_front : {X : Type 0} → List X → Result (List X × List ℕ) Bad → Result (List X × List ℕ) Bad
with_front front read = read >>= λ x. Ok (front ++ x.0, x.1)

regroup : {X : Type 0} (front : List X) (x : X) (read : Result (List X × List ℕ) Bad) → with_front front (read >>= λ y. Ok (x ∷ y.0, y.1)) ≡ with_front (front ++ x ∷ []) read
regroup front x (Ok y) = ap (λ xs. Ok (xs, y.1)) (simp append_assoc)
regroup front x (Err b) = refl

pub goes_on : {X : Type 0} (one : ℕ → List ℕ → Result (X × List ℕ) Bad) (all : ℕ → List ℕ → Result (List X × List ℕ) Bad) → Counts one all → (front : List X) (left k : ℕ) (bytes : List ℕ) (x : X) (after : List ℕ) (total : Result (List X × List ℕ) Bad)
    → left ≡ suc k → one k bytes ≡ Ok (x, after) → with_front front (all left bytes) ≡ total → with_front (front ++ x ∷ []) (all k after) ≡ total
goes_on one all c front left k bytes x after total l e so_far =
    let one_more : with_front front (all left bytes) ≡ with_front (front ++ x ∷ []) (all k after) = rw (l, c.more k bytes, e) (regroup front x (all k after)) in
    sym one_more ∙ so_far

pub ends : {X : Type 0} (one : ℕ → List ℕ → Result (X × List ℕ) Bad) (all : ℕ → List ℕ → Result (List X × List ℕ) Bad) → Counts one all → (e : Unread) (front : List X) (left k : ℕ) (bytes : List ℕ) (total : Result (List X × List ℕ) Bad)
    → left ≡ suc k → Fails e (one k bytes) → with_front front (all left bytes) ≡ total → Fails e total
ends one all c (unread.Memory m) front left k bytes total l e so_far = tt
ends one all c (unread.Bad b) front left k bytes total l e so_far =
    let stopped : with_front front (all left bytes) ≡ Err b = rw (l, c.more k bytes, e) refl in
    sym so_far ∙ stopped

pub is_done : {X : Type 0} (one : ℕ → List ℕ → Result (X × List ℕ) Bad) (all : ℕ → List ℕ → Result (List X × List ℕ) Bad) → Counts one all → (front : List X) (left : ℕ) (bytes : List ℕ) (total : Result (List X × List ℕ) Bad)
    → left ≡ 0 → with_front front (all left bytes) ≡ total → total ≡ Ok (front, bytes)
is_done one all c front left bytes total l so_far =
    let last : with_front front (all left bytes) ≡ Ok (front, bytes) = rw (l, c.none bytes) (ap (λ xs. Ok (xs, bytes)) (append-nil front)) in
    sym so_far ∙ last
