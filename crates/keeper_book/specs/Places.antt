-- A short list in places of type `Option`: the first places are filled, in order.
use Rattle.std.specs.Prelude.{ℕ, ◌≡◌, ◌≤◌, List, [], ◌∷◌, length, take, Option, Some, None}

-- what stands in these places, in order
abbrev pub placed : {T : Type 0} → List (Option T) → List T
placed [] = []
placed (None ∷ places) = placed places
placed (Some item ∷ places) = item ∷ placed places

-- of eight places the first are filled, as many as are counted
pub record ArePlaced {T : Type 0} (count : ℕ) (places : List (Option T)) : Type 0 where
  pub eight : length places ≡ 8
  pub within : count ≤ 8
  pub filled : length (placed (take count places)) ≡ count
