-- What a run is seen as: how many services were handed in for members, and its turns, the newest
-- first.
use Rattle.std.specs.Prelude.{ℕ, ◌≡◌, Option, Some, None, List, [], ◌∷◌}
use Rattle.events.specs.declared.event.Event.{Event}
use Rattle.events.specs.declared.turn.Served.{Served}
use Rattle.events.specs.declared.turn.Turn.{Turn}
use Rattle.ha_base.specs.declared.outside.Moment.{Moment}
use Rattle.keeper_book.specs.Book.{Book}
use Rattle.keeper_book.specs.Told.{HaveCause, seen}
use Rattle.keeper_book.specs.declared.calls.Call.{Call}
use Rattle.keeper_book.specs.declared.calls.KeeperAnswer.TheVariants as answer
use Rattle.keeper_book.specs.declared.faults.KeeperFault.TheVariants as fault
use Rattle.turn_rules.specs.Local.{Stands, calls_of}

pub record Run : Type 0 where
  pub boxes : ℕ
  pub past : List Turn

-- there is one turn more, of this event at this moment
pub record Grows (old : Run) (now : Moment) (event : Event) (new : Run) : Type 0 where
  pub turn : Turn
  pub more : new.past ≡ turn ∷ old.past
  pub of_event : turn.event ≡ event
  pub at_moment : turn.moment ≡ now
  pub boxes : new.boxes ≡ old.boxes

-- the book is told, and is the one that the calls of the turns lead to
abbrev pub StandsTold : List Turn → Option Book → Type 0
StandsTold past None = ⊥
StandsTold past (Some book) = Stands past book

-- since the count of faults was this one, calls of the turns failed only where it rose
abbrev pub CausedSince : ℕ → ℕ → List Turn → Type 0
CausedSince start now past = HaveCause start now (calls_of past)

-- one call was made, and the keeper lacked the memory for it
abbrev pub LackMemory : List Call → Type 0
LackMemory (call ∷ []) = seen call ≡ answer.Refused fault.Memory
LackMemory calls = ⊥

-- what was executed in the newest turn
abbrev pub served_last : List Turn → Option Served
served_last [] = None
served_last (turn ∷ past) = turn.step.served
