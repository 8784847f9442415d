-- An identity and its word determine each other.
use Rattle.std.proofs.Common.{◌≡◌, ◌≢◌, ℕ, ◌+◌, true, false, eqb, List, [], ◌∷◌, ◌++◌, length, take, drop, Option, Some, None, MatchOption, refl, sym, ap, inl, inr}
use Rattle.std.proofs.lemmas.Bool.Decides.{Decides-eqb, eqb_tells}
use Rattle.std.proofs.lemmas.Slice.Eq.{strip_prefix_is}
use Rattle.std.specs.Cmp.Lexicographic.{pointwise}
use Rattle.std.specs.Option.{option_copied}
use denote.Ref.{Bor}
use Rattle.line_fields.specs.Identities.{behind_prefix}

prefix_behind : (p w rest : List ℕ) → w ≡ p ++ rest → behind_prefix p w ≡ Some rest
prefix_behind [] w rest e = ap Some e
prefix_behind (c ∷ cs) [] rest e = absurd cc
prefix_behind (c ∷ cs) (d ∷ ds) rest e =
    elim (eqb_tells d c) [
      | inl same ↦ rw same.0 (prefix_behind cs ds rest cc)
      | inr other ↦ absurd (other.1 cc)
    ]

prefix_absent : (p w : List ℕ) → ((rest : List ℕ) → w ≢ p ++ rest) → behind_prefix p w ≡ None
prefix_absent [] w h = absurd (h w refl)
prefix_absent (c ∷ cs) [] h = refl
prefix_absent (c ∷ cs) (d ∷ ds) h =
    elim (eqb_tells d c) [
      | inl same ↦ rw same.0 (prefix_absent cs ds (λ rest e. h rest cc))
      | inr other ↦ rw other.0 refl
    ]

prefix_cases : (p w : List ℕ) (r : Option (Bor (List ℕ))) → MatchOption r ((rest : List ℕ) → w ≢ p ++ rest) (λ x. w ≡ p ++ x.now) → option_copied r ≡ behind_prefix p w
prefix_cases p w None h = sym (prefix_absent p w h)
prefix_cases p w (Some x) h = sym (prefix_behind p w x.now h)

-- what `strip_prefix` gives
pub prefix_found : (p w : List ℕ) (r : Option (Bor (List ℕ))) → MatchOption r (pointwise eqb (take (length p) w) p ≡ false) (λ x. (pointwise eqb (take (length p) w) p ≡ true) × (x.now ≡ drop (length p) w) × (length x.now + length p ≡ length w)) → option_copied r ≡ behind_prefix p w
prefix_found p w r h = prefix_cases p w r (strip_prefix_is Decides-eqb w p r h)

-- what stands behind a prefix is behind it
pub prefix_takes : (p w rest : List ℕ) → behind_prefix p w ≡ Some rest → w ≡ p ++ rest
prefix_takes [] w rest e = cc
prefix_takes (c ∷ cs) [] rest e = absurd cc
prefix_takes (c ∷ cs) (d ∷ ds) rest e =
    elim (eqb_tells d c) [
      | inl same ↦ let tail = prefix_takes cs ds rest (rw same.0 at e) in rw same.1 (ap (λ (t : List ℕ). c ∷ t) tail)
      | inr other ↦ absurd (let k : None ≡ Some rest = rw other.0 at e in cc)
    ]
