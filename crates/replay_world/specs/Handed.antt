-- What a run is handed, and what holds of its turns.
use Rattle.std.specs.Prelude.{ℕ, ◌≡◌, List, [], Option, Vec, vec_len}
use Rattle.std.specs.declared.alloc.Global.{Global}
use Rattle.std.specs.declared.dyn_box.DynBox.{DynBox}
use Rattle.call_ends.specs.Streaming.{Streaming}
use Rattle.events.specs.declared.turn.Turn.{Turn}
use Rattle.ha_base.specs.Services.{ReplyRelation}
use Rattle.keeper_book.specs.Book.{Book}
use Rattle.keeper_book.specs.declared.calls.Call.{Call}
use Rattle.keeper_book.specs.declared.keepers.Keeper.{Ghosts}
use Rattle.replay_world.specs.Owning.{OwnedTold}
use Rattle.run_lines.specs.Played.{playing}
use Rattle.run_ends.specs.Asked.{AsksAsSeen}
use Rattle.run_ends.specs.Runs.{CausedSince, StandsTold}
use Rattle.turn_laws.specs.CaughtUp.{AllCatchUp, CoversAreCaughtUp, NoneInvented}
use Rattle.turn_laws.specs.OwnTurns.{OwnTurnsTell}
use Rattle.turn_laws.specs.Replaced.{AreReplacedLater}
use Rattle.turn_laws.specs.Synchronising.{LeavesGreater}
use Rattle.turn_laws.specs.Turns.{AreBelowEnds}
use Rattle.turn_rules.specs.Local.{Local, calls_of}
use Rattle.turn_rules.specs.Safe.{Safe}
use Rattle.turn_rules.specs.Services.{AreGiven, service_of}

-- What a run is handed: what its services may give in a trace, how many members may join, and its
-- keeper as it was handed in and as it is at the end: which calls lead to it, and what it tells.
pub record Handed : Type 1 where
  pub given : List Turn → Type 0
  pub boxes : ℕ
  pub Keeper : Type 0
  pub asked : List Call → Keeper → Type 0
  pub book : Keeper → Option Book
  pub faults : Keeper → ℕ
  pub was : Keeper
  pub now : Keeper

-- A run over this keeper, with a service for the peer, and one for each member that may join. X and
-- F are what stands behind the boxes of the services.
abbrev pub handed : {K X : Type 0} {F : X → Type 0} → Ghosts K → (old new : K)
    → (DynBox X Global F → ReplyRelation) → DynBox X Global F → Vec (DynBox X Global F) Global
    → Handed
handed {K = K} keeper old new gives peer members = record {
  given = AreGiven gives (service_of peer members.items);
  boxes = vec_len members;
  Keeper = K;
  asked = λ calls now. AsksAsSeen keeper old calls now;
  book = keeper.book;
  faults = keeper.faults;
  was = old;
  now = new;
}

-- What holds of the trace of a run by the time that its keeper is this one.
pub record IsTrace (run : Handed) (now : run.Keeper) (trace : List Turn) : Type 0 where
  -- each turn is explained by those before it
  pub local : Local run.boxes trace
  -- and what the ends hold before each turn, their own turns tell
  pub own_turns : OwnTurnsTell run.boxes trace
  -- no number that was used reaches its counter's end
  pub below_ends : AreBelowEnds trace
  -- synchronisations leave the greater counters, and no request below them is taken later
  pub synchronised : LeavesGreater trace
  -- where no packet that members opened was invented, covers of received ESP numbers, whatever was
  -- answered, go less than one lead beyond what the peer sends next
  pub covers : NoneInvented trace → CoversAreCaughtUp trace
  -- what was executed, the services may give
  pub serves : run.given trace
  -- the calls of its turns were asked of the keeper, in this order, and no others
  pub asks : run.asked (calls_of trace) now
  -- where the keeper told an empty book, it tells the one that the calls of the trace lead to
  pub stands : StandsTold [] (run.book run.was) → StandsTold trace (run.book now)
  -- and the numbers of its epochs belong to one end each
  pub owned : StandsTold [] (run.book run.was) → OwnedTold trace (run.book now)
  -- and what holds across the ends holds
  pub safe : StandsTold [] (run.book run.was) → Safe trace
  -- and a cover that was answered `Replaced` was asked in an earlier epoch than the answer names
  pub replaced_later : StandsTold [] (run.book run.was) → AreReplacedLater trace
  -- and after a synchronisation with a whole lead the peer sends next what no holding is ahead of
  pub catch_up : StandsTold [] (run.book run.was) → NoneInvented trace → AllCatchUp trace
  -- a call failed only where the keeper's count of faults rose
  pub caused : CausedSince (run.faults run.was) (run.faults now) trace

-- The same where memory ran out: a call behind those of the trace may then have been asked in vain,
-- which left the keeper's book as it was.
pub record IsTraceCut (run : Handed) (trace : List Turn) : Type 0 where
  pub asked_last : run.Keeper
  pub same_book : run.book run.now ≡ run.book asked_last
  pub is_trace : IsTrace run asked_last trace

-- what a run makes of its input that is handed this
abbrev pub running : Handed → Streaming
running run = playing (IsTrace run run.now) (IsTraceCut run)
