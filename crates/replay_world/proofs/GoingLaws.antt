-- What one more turn leads to, and what holds of all turns by the laws of whole runs.
use Rattle.std.proofs.Common.{◌≡◌, ℕ, List, [], ◌∷◌, map, Option, Some, Result, subst, sym, refl}
use Rattle.std.specs.List.{AllByRecursion}
use Rattle.std.specs.Prelude.{Vec, vec_len}
use Rattle.std.specs.declared.alloc.Global.{Global}
use Rattle.std.specs.declared.dyn_box.DynBox.{DynBox}
use Rattle.call_ends.specs.Outside.{Outside}
use Rattle.call_ends.specs.Streaming.{Streams}
use Rattle.call_ends.specs.declared.streaming.Stop.{Stop}
use Rattle.input_lines.specs.declared.fault.InputFault.{InputFault}
use Rattle.event_text.specs.Pieces.{Reading, Takes}
use Rattle.event_text.specs.declared.lines.Line.{Line}
use Rattle.event_text.specs.declared.read_fault.TakeFault.{TakeFault}
use Rattle.events.specs.declared.turn.Turn.{Turn}
use Rattle.ha_base.specs.Services.{ReplyRelation}
use Rattle.keeper_book.specs.declared.keepers.Keeper.{Ghosts}
use Rattle.replay_world.proofs.AskedLaws.{asks-more, asks-nothing}
use Rattle.replay_world.proofs.OwnedLaws.{AllIsOwned, CallsAreReplacedLater, RunsAreSafe, SynchronisationsCatchUp, caught_told, owned_told, replaced_told, safe_told}
use Rattle.replay_world.proofs.PlayedLaws.{none_caused}
use Rattle.replay_world.proofs.ServedLaws.{begun-on, given-run, serves-more}
use Rattle.replay_world.specs.Going.{Goes, GoesCut, Leads, going}
use Rattle.replay_world.specs.Handed.{Handed, IsTrace, IsTraceCut, handed, running}
use Rattle.replay_world.specs.Owning.{OwnedTold}
use Rattle.replay_world.specs.Worlds.{ServeNewest}
use Rattle.run_ends.specs.Asked.{AsksAsSeen, newest_calls}
use Rattle.run_ends.specs.Runs.{CausedSince, StandsTold}
use Rattle.run_lines.proofs.BreakLaws.{streams_as}
use Rattle.run_lines.specs.Played.{playing}
use Rattle.turn_laws.specs.CaughtUp.{CoversAreCaughtUp, NoneInvented}
use Rattle.turn_laws.specs.OwnTurns.{OwnTurnsTell}
use Rattle.turn_laws.specs.Serving.{box_of}
use Rattle.turn_laws.specs.Synchronising.{LeavesGreater}
use Rattle.turn_laws.specs.Turns.{AreBelowEnds}
use Rattle.turn_rules.proofs.StateLaws.{local-explained}
use Rattle.turn_rules.specs.Ends.{Performer}
use Rattle.turn_rules.specs.Local.{Explained, Local, calls_of}
use Rattle.turn_rules.specs.Services.{AreGiven, service_of}

module _ {K B : Type 0} (keeper : Ghosts K) (count : B → ℕ) (gives : B → ReplyRelation) (places : ℕ) (handed : Performer → Option B) (start : K) where
  none-lead : Leads keeper count gives places handed start start handed []
  none-lead = record {
    local = tt;
    stands = λ told. told;
    caused = none_caused (keeper.faults start);
    asks = asks-nothing keeper start;
    serves = λ given run. run;
  }

  -- no turn, and nothing was asked or executed
  pub leads-begun : (past : List Turn) → past ≡ [] → Leads keeper count gives places handed start start handed past
  leads-begun past none = subst (λ (p : List Turn). Leads keeper count gives places handed start start handed p) (sym none) none-lead

  -- one more turn
  pub leads-on : (last : B → Option (List ℕ)) (mid now : K) (was is : Performer → Option B) (past new : List Turn) (turn : Turn) → new ≡ turn ∷ past → Local places new
      → (StandsTold past (keeper.book mid) → StandsTold new (keeper.book now)) → ((since : ℕ) → CausedSince since (keeper.faults mid) past → CausedSince since (keeper.faults now) new)
      → AsksAsSeen keeper mid (newest_calls new) now → ServeNewest count last gives new was is → Leads keeper count gives places handed start mid was past
      → Leads keeper count gives places handed start now is new
  leads-on last mid now was is past new turn more local stands caused asks served l = record {
    local = local;
    stands = λ told. stands (l.stands told);
    caused = caused (keeper.faults start) l.caused;
    asks = asks-more keeper start mid now past new turn more l.asks asks;
    serves = λ given run. serves-more count last gives given past new turn was is more served (l.serves given run);
  }

  -- where memory runs out, all was asked
  pub goes-cut : (now : K) (trace : List Turn) → Goes keeper count gives places handed start now trace → GoesCut keeper count gives places handed start now trace
  goes-cut now trace goes = record { asked_last = now; same_book = refl; goes = goes }

-- the laws of whole runs
pub record Laws : Type 0 where
  pub safe : RunsAreSafe
  pub owned : AllIsOwned
  pub replaced : CallsAreReplacedLater
  pub catch_up : SynchronisationsCatchUp
  pub own_turns : (boxes : ℕ) (past : List Turn) → Explained boxes past → OwnTurnsTell boxes past
  pub below_ends : (boxes : ℕ) (past : List Turn) → Explained boxes past → AreBelowEnds past
  pub synchronised : (boxes : ℕ) (past : List Turn) → Explained boxes past → LeavesGreater past
  pub covers : (boxes : ℕ) (past : List Turn) → Explained boxes past → NoneInvented past → CoversAreCaughtUp past

-- what holds of all turns
pub trace-holds : Laws → (run : Handed) (now : run.Keeper) (trace : List Turn) → Local run.boxes trace → run.given trace → run.asked (calls_of trace) now
    → (StandsTold [] (run.book run.was) → StandsTold trace (run.book now)) → CausedSince (run.faults run.was) (run.faults now) trace → IsTrace run now trace
trace-holds laws run now trace local serves asks stands caused = record {
  local = local;
  own_turns = laws.own_turns run.boxes trace explained;
  below_ends = laws.below_ends run.boxes trace explained;
  synchronised = laws.synchronised run.boxes trace explained;
  covers = laws.covers run.boxes trace explained;
  serves = serves;
  asks = asks;
  stands = stands;
  owned = λ told. owned_told laws.owned run.boxes trace (run.book now) local (stands told);
  safe = λ told. safe_told laws.safe run.boxes trace (run.book now) local (stands told);
  replaced_later = λ told. replaced_told laws.replaced run.boxes trace (run.book now) local (stands told);
  catch_up = λ told. caught_told laws.catch_up run.boxes trace (run.book now) local (stands told);
  caused = caused;
}
  where
    explained : Explained run.boxes trace
    explained = local-explained run.boxes trace local

-- where nothing was executed, the services may give what was
given-none : {B : Type 0} (gives : B → ReplyRelation) (service : Performer → Option B) → AreGiven gives service []
unfolding AreGiven
given-none gives service = tt

module _ {K X : Type 0} {F : X → Type 0} (keeper : Ghosts K) (gives : DynBox X Global F → ReplyRelation) (peer : DynBox X Global F) (services : Vec (DynBox X Global F) Global) (laws : Laws) where
  -- before the first turn
  pub none-holds : (old new : K) → IsTrace (handed keeper old new gives peer services) old []
  none-holds old new = trace-holds laws (handed keeper old new gives peer services) old [] tt (given-none gives (service_of peer services.items)) (asks-nothing keeper old) (λ told. told) (none_caused (keeper.faults old))

  module _ (count : DynBox X Global F → ℕ) (peer_fresh : count peer ≡ 0) (fresh : AllByRecursion (λ service. count service ≡ 0) services.items)
      (places : ℕ) (started : DynBox X Global F) (kept : List (Option (DynBox X Global F))) (places_are : places ≡ vec_len services) (peer_is : started ≡ peer) (kept_are : kept ≡ map Some services.items) where
    trace-led : (old new now : K) (trace : List Turn) → Goes keeper count gives places (box_of started kept) old now trace → IsTrace (handed keeper old new gives peer services) now trace
    trace-led old new now trace goes = trace-holds laws (handed keeper old new gives peer services) now trace (subst (λ n. Local n trace) places_are goes.leads.local)
        (given-run count peer services.items peer_fresh fresh gives trace goes.boxes (begun-on count peer started services.items kept peer_is kept_are gives trace goes.boxes goes.leads.serves))
        goes.leads.asks goes.leads.stands goes.leads.caused

    -- what a run of a world leads to is what holds of its trace
    pub streams-led : (old new : K) (was is : Outside) (worked : Result (Option InputFault) Stop) → Streams (going keeper count gives places (box_of started kept) old new) was is worked
        → Streams (running (handed keeper old new gives peer services)) was is worked
    streams-led old new was is worked = streams_as (Goes keeper count gives places (box_of started kept) old new) (GoesCut keeper count gives places (box_of started kept) old new)
        (IsTrace (handed keeper old new gives peer services) new) (IsTraceCut (handed keeper old new gives peer services))
        (λ trace goes. trace-led old new new trace goes)
        (λ trace cut. record { asked_last = cut.asked_last; same_book = cut.same_book; is_trace = trace-led old new cut.asked_last trace cut.goes })
        was is worked

-- where memory runs out, all was asked
pub trace-cut : (run : Handed) (trace : List Turn) → IsTrace run run.now trace → IsTraceCut run trace
trace-cut run trace t = record { asked_last = run.now; same_book = refl; is_trace = t }

-- what was taken, by what it is
pub taken-as : (old new : Reading) (left still_left : Option (List ℕ)) (faults now_faults : ℕ) (x y : Result Line TakeFault) → x ≡ y → Takes x old new left still_left faults now_faults
    → Takes y old new left still_left faults now_faults
taken-as old new left still_left faults now_faults x y same takes = subst (λ r. Takes r old new left still_left faults now_faults) same takes

-- what holds of a trace, where two runs tell the same of it
pub trace-as : (run other : Handed) (now : run.Keeper) (then : other.Keeper) (trace : List Turn) → run.boxes ≡ other.boxes → (run.given trace → other.given trace)
    → (run.asked (calls_of trace) now → other.asked (calls_of trace) then) → run.book run.was ≡ other.book other.was → run.book now ≡ other.book then
    → run.faults run.was ≡ other.faults other.was → run.faults now ≡ other.faults then → IsTrace run now trace → IsTrace other then trace
trace-as run other now then trace boxes given asked book_was book_is faults_was faults_is t = record {
  local = subst (λ n. Local n trace) boxes t.local;
  own_turns = subst (λ n. OwnTurnsTell n trace) boxes t.own_turns;
  below_ends = t.below_ends;
  synchronised = t.synchronised;
  covers = t.covers;
  serves = given t.serves;
  asks = asked t.asks;
  stands = λ told. subst (StandsTold trace) book_is (t.stands (was told));
  owned = λ told. subst (OwnedTold trace) book_is (t.owned (was told));
  safe = λ told. t.safe (was told);
  replaced_later = λ told. t.replaced_later (was told);
  catch_up = λ told. t.catch_up (was told);
  caused = subst (λ n. CausedSince n (other.faults then) trace) faults_was (subst (λ n. CausedSince (run.faults run.was) n trace) faults_is t.caused);
}
  where
    was : StandsTold [] (other.book other.was) → StandsTold [] (run.book run.was)
    was told = subst (StandsTold []) (sym book_was) told

-- what holds of the trace may be said otherwise
pub streams-then : (H C H' C' : List Turn → Type 0) (old new : Outside) (worked : Result (Option InputFault) Stop) → Streams (playing H C) old new worked → ((trace : List Turn) → H trace → H' trace)
    → ((trace : List Turn) → C trace → C' trace) → Streams (playing H' C') old new worked
streams-then H C H' C' old new worked streams holds cuts = streams_as H C H' C' holds cuts old new worked streams
