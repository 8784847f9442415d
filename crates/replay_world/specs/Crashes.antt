-- The ends of members, and the services that are left then.
use Rattle.std.specs.Prelude.{ℕ, zero, suc, Option, Some, None, List, [], ◌∷◌, slice_set}
use Rattle.events.specs.declared.turn.Turn.{Turn}
use Rattle.turn_rules.specs.States.{ended_in}

-- the member that ended in the newest turn
abbrev pub ended_last : List Turn → Option ℕ
ended_last [] = None
ended_last (turn ∷ past) = ended_in turn

-- the services that are left: a member that ends drops its own, which stood at its place; members
-- are counted from 1
abbrev pub services_after : {B : Type 0} → Option ℕ → List (Option B) → List (Option B)
services_after None services = services
services_after (Some zero) services = services
services_after (Some (suc place)) services = slice_set services place None
