-- Lists of the same length that begin alike.
use Rattle.std.proofs.Common.{◌≡◌, ℕ, zero, suc, ◌+◌, ◌-◌, ◌≤◌, ◌<◌, List, [], ◌∷◌, ◌++◌, length, take, drop, refl, sym, ap, subst, ◌∙◌, arith, inl, inr}
use Rattle.std.specs.Prelude.{slice_index}
use Rattle.std.proofs.lemmas.Bool.{cases_lt}
use Rattle.std.proofs.lemmas.List.{take-append-drop, take_all, take_at, drop_at, length-take, length-drop, get_or-drop, get_or-take, get_or_past}
use Rattle.ike_grammar.specs.Faults.{two_at}
use Rattle.ike_grammar.specs.Places.{BeginAlike}

pub record Alike (n : ℕ) (bytes others : List ℕ) : Type 0 where
  pub long : length others ≡ length bytes
  pub same : (i : ℕ) → i < n → slice_index others i ≡ slice_index bytes i

pub begin_alike : (n : ℕ) (bytes others : List ℕ) → BeginAlike n bytes others → Alike n bytes others
begin_alike n bytes others a =
    record {
      long = a.long;
      same = λ i l. sym (get_or-take n others i 0 l) ∙ ap (λ (t : List ℕ). slice_index t i) a.same ∙ get_or-take n bytes i 0 l;
    }

pub alike_less : (n m : ℕ) (bytes others : List ℕ) → Alike n bytes others → m ≤ n → Alike m bytes others
alike_less n m bytes others a l = record { long = a.long; same = λ i k. a.same i (omega (arith, k, l)) }

pub alike_drop : (k n : ℕ) (bytes others : List ℕ) → Alike n bytes others → Alike (n - k) (drop k bytes) (drop k others)
alike_drop k n bytes others a =
    record {
      long = length-drop k others ∙ ap (λ (m : ℕ). m - k) a.long ∙ sym (length-drop k bytes);
      same = λ i l. get_or-drop k others i 0 ∙ a.same (k + i) (omega (arith, l)) ∙ sym (get_or-drop k bytes i 0);
    }

pub alike_take : (k n : ℕ) (bytes others : List ℕ) → Alike n bytes others → Alike n (take k bytes) (take k others)
alike_take k n bytes others a =
    record {
      long = omega (arith, length-take k others, length-take k bytes, a.long);
      same = λ i l. elim (cases_lt i k) [
        | inl lt ↦ get_or-take k others i 0 lt ∙ a.same i l ∙ sym (get_or-take k bytes i 0 lt)
        | inr le ↦ get_or_past (take k others) i 0 (omega (arith, length-take k others)) ∙ sym (get_or_past (take k bytes) i 0 (omega (arith, length-take k bytes)))
      ];
    }

pub alike_two : (n i : ℕ) (bytes others : List ℕ) → Alike n bytes others → i + 1 < n → two_at others i ≡ two_at bytes i
alike_two n i bytes others a l = rw (a.same i (omega arith), a.same (i + 1) l) refl

pub same_take : (k n : ℕ) (bytes others : List ℕ) → Alike n bytes others → k ≤ n → take k others ≡ take k bytes
same_take zero n bytes others a l = refl
same_take (suc k) zero bytes others a l = absurd (omega arith)
same_take (suc k) (suc n) [] [] a l = refl
same_take (suc k) (suc n) [] (o ∷ others) a l = absurd (omega (arith, a.long))
same_take (suc k) (suc n) (b ∷ bytes) [] a l = absurd (omega (arith, a.long))
same_take (suc k) (suc n) (b ∷ bytes) (o ∷ others) a l =
    let head : o ≡ b = a.same 0 (omega arith) in
    let tail : take k others ≡ take k bytes = same_take k n bytes others (record { long = omega (arith, a.long); same = λ i m. a.same (suc i) (omega (arith, m)) }) (omega arith) in
    cc

pub same_all : (n : ℕ) (bytes others : List ℕ) → Alike n bytes others → length bytes ≤ n → others ≡ bytes
same_all n bytes others a l =
    let short : length others ≤ n = omega (arith, a.long) in
    sym (take_all n others short) ∙ same_take n n bytes others a (omega arith) ∙ take_all n bytes l

-- what begins with the same octets, and what is behind them
pub record Behind (front rest others : List ℕ) (n : ℕ) : Type 0 where
  pub left : List ℕ
  pub parts : others ≡ front ++ left
  pub alike : Alike n rest left

pub alike_behind : (n : ℕ) (front rest bytes others : List ℕ) → bytes ≡ front ++ rest → Alike n bytes others → length front ≤ n → Behind front rest others (n - length front)
alike_behind n front rest bytes others e a l =
    let k = length front in
    let taken : take k others ≡ front = same_take k n bytes others a l ∙ ap (λ (t : List ℕ). take k t) e ∙ take_at front rest k refl in
    let rest_is : drop k bytes ≡ rest = ap (λ (t : List ℕ). drop k t) e ∙ drop_at front rest k refl in
    record {
      left = drop k others;
      parts = sym (take-append-drop k others) ∙ ap (λ (t : List ℕ). t ++ drop k others) taken;
      alike = subst (λ (r : List ℕ). Alike (n - k) r (drop k others)) rest_is (alike_drop k n bytes others a);
    }
