-- Octets that are taken from the front of a slice.
use Rattle.std.proofs.Common.{◌≡◌, ◌≢◌, ℕ, zero, suc, ◌+◌, ◌-◌, ◌<◌, ◌≤◌, true, List, [], ◌∷◌, length, get_or, take, drop, refl, sym, ap, ◌∙◌, arith}
use Rattle.std.specs.List.{list_all}
use Rattle.std.proofs.lemmas.Bool.{ne_eqb}
use Rattle.std.proofs.lemmas.List.{drop-drop, drop-take, length-take}
use Rattle.input_lines.specs.Lines.{no_feed}

pub taken_fits : (k : ℕ) (xs : List ℕ) (n : ℕ) → n ≤ length (take k xs) → n ≤ k
taken_fits k xs n le = omega (arith, le, length-take k xs)

-- from a later place on stands what is left without the first octets
pub advanced : (xs : List ℕ) (start end n : ℕ) → n ≤ end - start → start ≤ end → take (end - (start + n)) (drop (start + n) xs) ≡ drop n (take (end - start) (drop start xs))
advanced xs start end n fits ordered =
    let m = end - (start + n) in
    let both : end - start ≡ n + m = omega (arith, fits, ordered) in
    sym (ap (λ k. drop n (take k (drop start xs))) both ∙ drop-take n m (drop start xs) ∙ ap (take m) (drop-drop n start xs))

-- no line feed stands before the first one
pub feedless_front : (xs : List ℕ) (n : ℕ) → n ≤ length xs → ((k : ℕ) → k < n → get_or xs k 0 ≢ 10) → list_all no_feed (take n xs) ≡ true
feedless_front [] zero fits before = refl
feedless_front [] (suc n) fits before = absurd (omega (arith, fits))
feedless_front (c ∷ cs) zero fits before = refl
feedless_front (c ∷ cs) (suc n) fits before =
    rw (ne_eqb c 10 (before 0 (omega arith)), feedless_front cs n (omega (arith, fits)) (λ k h. before (suc k) (omega (arith, h)))) refl
