-- What turns lead to, before the laws of whole runs are called on them.
use Rattle.std.specs.Prelude.{ℕ, ◌≡◌, List, [], Option}
use Rattle.call_ends.specs.Streaming.{Streaming}
use Rattle.events.specs.declared.turn.Turn.{Turn}
use Rattle.ha_base.specs.Services.{ReplyRelation}
use Rattle.keeper_book.specs.declared.keepers.Keeper.{Ghosts}
use Rattle.run_lines.specs.Played.{playing}
use Rattle.replay_world.specs.Worlds.{ServesOn}
use Rattle.run_ends.specs.Asked.{AsksAsSeen}
use Rattle.run_ends.specs.Runs.{CausedSince, StandsTold}
use Rattle.turn_rules.specs.Ends.{Performer}
use Rattle.turn_rules.specs.Local.{Local, calls_of}

module _ {K B : Type 0} (keeper : Ghosts K) (count : B → ℕ) (gives : B → ReplyRelation)
    (places : ℕ) (handed : Performer → Option B) (start : K) where
  -- The turns are explained, were asked of this keeper, and the services executed what they say.
  pub record Leads (now : K) (boxes : Performer → Option B) (trace : List Turn) : Type 0 where
    pub local : Local places trace
    pub stands : StandsTold [] (keeper.book start) → StandsTold trace (keeper.book now)
    pub caused : CausedSince (keeper.faults start) (keeper.faults now) trace
    pub asks : AsksAsSeen keeper start (calls_of trace) now
    pub serves : ServesOn count gives [] handed trace boxes

  -- the same for some services
  pub record Goes (now : K) (trace : List Turn) : Type 0 where
    pub boxes : Performer → Option B
    pub leads : Leads now boxes trace

  -- and for some keeper that tells the same book
  pub record GoesCut (now : K) (trace : List Turn) : Type 0 where
    pub asked_last : K
    pub same_book : keeper.book now ≡ keeper.book asked_last
    pub goes : Goes asked_last trace

-- what a world makes of an input
abbrev pub going : {K B : Type 0} → Ghosts K → (B → ℕ) → (B → ReplyRelation) → ℕ
    → (Performer → Option B) → (old new : K) → Streaming
going keeper count gives places handed old new =
    playing (Goes keeper count gives places handed old new)
    (GoesCut keeper count gives places handed old new)
