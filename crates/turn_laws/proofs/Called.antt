-- What holds of each call of acts holds of each call of their turns.
use Rattle.std.proofs.Common.{List, [], ◌∷◌, ◌++◌, map}
use Rattle.std.specs.List.{AllByRecursion}
use Rattle.events.specs.declared.turn.Turn.{Turn}
use Rattle.keeper_book.specs.declared.calls.Call.{Call}
use Rattle.turn_laws.proofs.Acting.{moves_onto}
use Rattle.turn_laws.specs.Acts.{Act, Calls, Move, Seals, act_by}
use Rattle.turn_laws.specs.Holdings.{Actor}
use Rattle.turn_laws.specs.Turns.{actor_of, acts_of, key_iv, moves_of, uses_of}

module _ (P : Call → Type 0) where
  abbrev pub IfCall : Move → Type 0
  IfCall (Calls call) = P call
  IfCall move = Unit {0}

  abbrev pub HoldOfCalls : List Act → Type 0
  HoldOfCalls acts = AllByRecursion (λ act. IfCall act.move) acts

  onto-hold : (w : Actor) (moves : List Move) (acts : List Act) → HoldOfCalls (moves_onto w moves acts) → AllByRecursion IfCall moves × HoldOfCalls acts
  onto-hold w [] acts all = (tt, all)
  onto-hold w (move ∷ moves) acts all =
      let rest : AllByRecursion IfCall moves × HoldOfCalls (act_by w (move) ∷ acts) = onto-hold w moves (act_by w (move) ∷ acts) all in
      ((rest.1.0, rest.0), rest.1.1)

  calls-first : (calls : List Call) (rest : List Move) → AllByRecursion IfCall (map Calls calls ++ rest) → AllByRecursion P calls
  calls-first [] rest all = tt
  calls-first (call ∷ calls) rest all = (all.0, calls-first calls rest all.1)

  pub calls-hold : (past : List Turn) → HoldOfCalls (acts_of past) → AllByRecursion (λ turn. AllByRecursion P turn.calls) past
  calls-hold [] all = tt
  calls-hold (turn ∷ past) all =
      let parts : AllByRecursion IfCall (moves_of turn) × HoldOfCalls (acts_of past) = onto-hold (actor_of turn) (moves_of turn) (acts_of past) all in
      (calls-first turn.calls (uses_of turn.event turn.step.verdict turn.step.seals ++ map (λ seal. Seals (key_iv seal)) turn.step.seals) parts.0, calls-hold past parts.1)
