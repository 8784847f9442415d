-- A list in places of type `Option`: an item more, and an item at a place.
use Rattle.std.proofs.Common.{◌≡◌, ℕ, zero, suc, ◌+◌, ◌<◌, ◌≤◌, List, [], ◌∷◌, ◌++◌, length, take, Option, Some, None, get_or, refl, ap, sym, ◌∙◌, arith}
use Rattle.std.proofs.Math.ListN.{set}
use Rattle.std.specs.List.{slice_get}
use Rattle.std.proofs.lemmas.List.{take_more_set, get_or-take, length-take-le}
use Rattle.std.proofs.Common.{length-append, length-set}
use Rattle.std.proofs.lemmas.Option.{slice_get_past}
use Rattle.keeper_book.specs.Places.{placed, ArePlaced}

pub placed-append : {T : Type 0} (xs ys : List (Option T)) → placed (xs ++ ys) ≡ placed xs ++ placed ys
placed-append [] ys = refl
placed-append (None ∷ xs) ys = placed-append xs ys
placed-append (Some x ∷ xs) ys = ap (λ l. x ∷ l) (placed-append xs ys)

-- filling the next place appends the item
pub placed_next : {T : Type 0} (places : List (Option T)) (count : ℕ) (item : T) → count < length places → placed (take (count + 1) (set places count (Some item))) ≡ placed (take count places) ++ item ∷ []
placed_next places count item h = ap placed (take_more_set places count (Some item) h) ∙ placed-append (take count places) (Some item ∷ [])

-- and the places are filled as before, with one more
pub are_placed_next : {T : Type 0} (places : List (Option T)) (count : ℕ) (item : T) → count < 8 → ArePlaced count places → ArePlaced (count + 1) (set places count (Some item))
are_placed_next places count item few are = record {
  eight = length-set places count (Some item) ∙ are.eight;
  within = omega arith;
  filled = ap length (placed_next places count item (omega arith)) ∙ (length-append (placed (take count places)) (item ∷ []) ∙ omega arith);
}

-- no more items than places
placed_at_most : {T : Type 0} (xs : List (Option T)) → length (placed xs) ≤ length xs
placed_at_most [] = omega arith
placed_at_most (None ∷ xs) = omega (arith, placed_at_most xs)
placed_at_most (Some x ∷ xs) = omega (arith, placed_at_most xs)

-- where each place is filled, the item at a place is what stands there
placed_at : {T : Type 0} (xs : List (Option T)) (k : ℕ) (d : Option T) → length (placed xs) ≡ length xs → k < length xs → get_or xs k d ≡ slice_get (placed xs) k
placed_at [] k d e h = absurd (omega arith)
placed_at (None ∷ xs) k d e h = absurd (omega (arith, placed_at_most xs))
placed_at (Some x ∷ xs) zero d e h = refl
placed_at (Some x ∷ xs) (suc k) d e h = placed_at xs k d (omega arith) (omega arith)

-- the item at a place that is counted
pub placed_read : {T : Type 0} (places : List (Option T)) (count k : ℕ) (r : Option T) → ArePlaced count places → k < count → r ≡ get_or places k r → get_or places k r ≡ slice_get (placed (take count places)) k
placed_read places count k r are h is =
    let len : length (take count places) ≡ count = length-take-le count places (omega arith) in
    sym (get_or-take count places k r h) ∙ placed_at (take count places) k r (are.filled ∙ sym len) (omega arith)

-- no item stands past the count
pub placed_past : {T : Type 0} (places : List (Option T)) (count k : ℕ) → ArePlaced count places → count ≤ k → None ≡ slice_get (placed (take count places)) k
placed_past places count k are h = sym (slice_get_past (placed (take count places)) k (omega arith))
