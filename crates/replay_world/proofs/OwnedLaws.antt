-- Where each turn is explained and the book stands for the calls, all is owned and safe.
use Rattle.std.proofs.Common.{◌≡◌, ℕ, Option, Some, None, List, Result, Ok, Err, OnOk, OnErr, subst}
use Rattle.events.specs.declared.event.Event.{Event}
use Rattle.events.specs.declared.turn.Turn.{Turn}
use Rattle.ha_base.specs.declared.outside.Moment.{Moment}
use Rattle.keeper_book.specs.Book.{Book}
use Rattle.replay_world.specs.Owning.{OwnedTold}
use Rattle.run_ends.specs.Runs.{Grows, Run, StandsTold}
use Rattle.turn_laws.specs.CaughtUp.{AllCatchUp, NoneInvented}
use Rattle.turn_laws.specs.Replaced.{AreReplacedLater}
use Rattle.turn_laws.specs.Turns.{AreOwned}
use Rattle.turn_rules.proofs.StateLaws.{local-explained}
use Rattle.turn_rules.specs.Local.{Explained, Local, Stands}
use Rattle.turn_rules.specs.Safe.{Safe}

-- the laws of whole runs
abbrev pub RunsAreSafe : Type 0
RunsAreSafe = (boxes : ℕ) (past : List Turn) (book : Book) → Explained boxes past → Stands past book → Safe past

abbrev pub AllIsOwned : Type 0
AllIsOwned = (boxes : ℕ) (past : List Turn) (book : Book) → Explained boxes past → Stands past book → AreOwned past book

abbrev pub CallsAreReplacedLater : Type 0
CallsAreReplacedLater = (boxes : ℕ) (past : List Turn) (book : Book) → Explained boxes past → Stands past book → AreReplacedLater past

abbrev pub SynchronisationsCatchUp : Type 0
SynchronisationsCatchUp = (boxes : ℕ) (past : List Turn) (book : Book) → Explained boxes past → Stands past book → NoneInvented past → AllCatchUp past

pub owned_told : AllIsOwned → (boxes : ℕ) (past : List Turn) (book : Option Book) → Local boxes past → StandsTold past book → OwnedTold past book
owned_told law boxes past None local stands = absurd stands
owned_told law boxes past (Some book) local stands = law boxes past book (local-explained boxes past local) stands

-- what is answered `Replaced`, by the law of whole runs
pub replaced_told : CallsAreReplacedLater → (boxes : ℕ) (past : List Turn) (book : Option Book) → Local boxes past → StandsTold past book → AreReplacedLater past
replaced_told law boxes past None local stands = absurd stands
replaced_told law boxes past (Some book) local stands = law boxes past book (local-explained boxes past local) stands

-- synchronisations catch up, by the law of whole runs
pub caught_told : SynchronisationsCatchUp → (boxes : ℕ) (past : List Turn) (book : Option Book) → Local boxes past → StandsTold past book
    → NoneInvented past → AllCatchUp past
caught_told law boxes past None local stands = absurd stands
caught_told law boxes past (Some book) local stands = law boxes past book (local-explained boxes past local) stands

-- and what holds across the ends holds, by the law of whole runs
pub safe_told : RunsAreSafe → (boxes : ℕ) (past : List Turn) (book : Option Book) → Local boxes past → StandsTold past book → Safe past
safe_told law boxes past None local stands = absurd stands
safe_told law boxes past (Some book) local stands = law boxes past book (local-explained boxes past local) stands

-- the turns before the newest one are explained too
pub local_before : (old new : Run) (now : Moment) (event : Event) → Grows old now event new → Local new.boxes new.past → Local old.boxes old.past
local_before old new now event grows local =
    subst (λ boxes. Local boxes old.past) grows.boxes (subst (λ past. Local new.boxes past) grows.more local).1

-- also where no turn came
pub local_old : {T E : Type 0} (r : Result T E) (old new : Run) (now : Moment) (event : Event) → OnOk r (Grows old now event new) → OnErr r (new ≡ old) → Local new.boxes new.past → Local old.boxes old.past
local_old (Ok x) old new now event grows err local = local_before old new now event grows local
local_old (Err e) old new now event grows err local = subst (λ (run : Run). Local run.boxes run.past) err local
