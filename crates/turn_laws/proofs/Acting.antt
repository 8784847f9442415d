-- Moves of one end as its acts.
use Rattle.std.proofs.Common.{List, [], ◌∷◌, map}
use Rattle.std.specs.List.{AllByRecursion}
use Rattle.turn_laws.specs.Acts.{Act, MayDoAll, Move, act_by, acts_onto}
use Rattle.turn_laws.specs.Holdings.{Actor}

abbrev pub moves_onto : Actor → List Move → List Act → List Act
moves_onto w moves acts = acts_onto (map (act_by w) moves) acts

abbrev pub MayDoMoves : List Act → Actor → List Move → Type 0
MayDoMoves acts w moves = MayDoAll acts (map (act_by w) moves)

-- what holds of these moves and of the acts before them
pub moves-all : (P : Move → Type 0) (w : Actor) (moves : List Move) (acts : List Act) → AllByRecursion P moves → AllByRecursion (λ act. P act.move) acts → AllByRecursion (λ act. P act.move) (moves_onto w moves acts)
moves-all P w [] acts all before = before
moves-all P w (move ∷ moves) acts all before = moves-all P w moves (act_by w move ∷ acts) all.1 (all.0, before)
