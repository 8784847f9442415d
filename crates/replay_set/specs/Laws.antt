-- What a receive window says of the numbers that were noted in it.
use Rattle.std.specs.Prelude.{◌≡◌, ℕ, ◌+◌, ◌<◌, ◌≤◌, ◌⊎◌, List, ◌∷◌, All, Contains}
use Rattle.replay_set.specs.Window.{Window, IsMeant, judged, next_noted, window_of, with_noted}
use Rattle.replay_set.specs.declared.judgement.Judgement.{Judgement}
use Rattle.replay_set.specs.declared.judgement.Judgement.TheVariants.{Stale, Seen, Fresh}

abbrev pub NotingAddsTheNumber : Type 0
NotingAddsTheNumber =
    (size base : ℕ) (numbers : List ℕ) (n : ℕ) → with_noted (window_of size base numbers) n
    ≡ window_of size base (n ∷ numbers)

-- a number is stale below the base and where it is `size` or more below the top, else seen exactly
-- where it was noted
pub record IsJudgedBy (size base : ℕ) (numbers : List ℕ) (n : ℕ)
    (judgement : Judgement) : Type 0 where
  pub below_base : n < base → judgement ≡ Stale
  pub below_window : n + size < next_noted base numbers → judgement ≡ Stale
  pub noted : base ≤ n → next_noted base numbers ≤ n + size → Contains numbers n → judgement ≡ Seen
  pub not_noted : base ≤ n → next_noted base numbers ≤ n + size → ¬ Contains numbers n
      → judgement ≡ Fresh

abbrev pub JudgingByNumbers : Type 0
JudgingByNumbers =
    (size base : ℕ) (numbers : List ℕ) (n : ℕ) → IsJudgedBy size base numbers n
    (judged (window_of size base numbers) n)

-- the next number is above all the numbers and at or above the base, and no greater than that asks
-- for
pub record IsNextOf (base : ℕ) (numbers : List ℕ) (next : ℕ) : Type 0 where
  pub above_all : All (λ n. n < next) numbers
  pub from_base : base ≤ next
  pub least : (next ≡ base) ⊎ ((top : ℕ) × Contains numbers top × (next ≡ top + 1))

abbrev pub TopIsTheGreatest : Type 0
TopIsTheGreatest = (base : ℕ) (numbers : List ℕ) → IsNextOf base numbers (next_noted base numbers)

abbrev pub MeaningIsUnique : Type 0
MeaningIsUnique = (window : Window) (low32 m n : ℕ) → IsMeant window low32 m
    → IsMeant window low32 n → m ≡ n
