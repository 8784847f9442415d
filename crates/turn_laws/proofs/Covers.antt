-- Calls that make a number ready are covers, and then come those that follow.
use Rattle.turn_laws.specs.Holdings.{Holding}
use Rattle.events.specs.declared.turn.Step.{Step}
use Rattle.events.specs.declared.event.Event.{Event}
use Rattle.keeper_book.specs.declared.pools.Pool.{Pool}
use Rattle.pool_lots.specs.declared.lots.TheConstants.{LEASED_NUMBERS}
use Rattle.std.proofs.Common.{◌≡◌, ℕ, Option, Some, None, MatchOption, List, [], ◌∷◌, ⊎_elim, subst, sym, ◌⊎◌, map}
use Rattle.std.proofs.lemmas.Bool.{cases_lt}
use Rattle.horizons.specs.Reaches.{Reach, cover_of}
use Rattle.horizons.specs.Ready.{Answered, Covers, Ready}
use Rattle.horizons.specs.Stops.{stop_of}
use Rattle.horizons.specs.declared.stop.Stop.{Stop}
use Rattle.horizons.specs.declared.stop.Stop.TheVariants as stop
use Rattle.keeper_book.specs.Told.{seen}
use Rattle.keeper_book.specs.declared.calls.Call.{Call}
use Rattle.keeper_book.specs.declared.calls.KeeperAnswer.{KeeperAnswer}
use Rattle.keeper_book.specs.declared.calls.KeeperAnswer.TheVariants as answer
use Rattle.keeper_book.specs.declared.calls.KeeperAsk.TheVariants as ask
use Rattle.events.specs.declared.turn.Turn.{Turn}
use Rattle.ha_base.specs.declared.counter_names.Kind.{Kind}
use Rattle.turn_laws.proofs.Deeds.{AreReady, Last, Need, LotNeed, MemberUses, Rests, IsLotReady, Left, lots_of, Leased, InVain, UsesIt, spent_by, with_lot}
use Rattle.turn_rules.specs.Draws.{reach_of}

-- what holds of the calls of such a turn
module _ (R : List Call → Type 0) (r : Reach) (at : ℕ) (stops : Stop → List Call → Type 0) (goes : ℕ → List Call → Type 0)
    (step : (call : Call) (rest : List Call) → call.asked ≡ ask.Cover r.spir r.name.kind r.name.child r.epoch (cover_of r at) → R rest → R (call ∷ rest))
    (stopped : (why : Stop) (rest : List Call) → stops why rest → R rest)
    (gone : (high : ℕ) (rest : List Call) → goes high rest → R rest) where
  answered-calls : (answered : KeeperAnswer) (rest : List Call) → Answered answered (λ why. stops why rest) (goes (cover_of r at) rest) → R rest
  answered-calls answer.Done rest a = gone (cover_of r at) rest a
  answered-calls (answer.Taken taken) rest a = absurd a
  answered-calls (answer.First first) rest a = absurd a
  answered-calls (answer.Look spent) rest a = absurd a
  answered-calls (answer.Refused why) rest a = go (stop_of why) a
    where
      go : (x : Option Stop) → MatchOption x ⊥ (λ why. stops why rest) → R rest
      go None a = absurd a
      go (Some why) a = stopped why rest a

  covers-calls : (calls : List Call) → Covers r at calls stops goes → R calls
  covers-calls [] c = absurd c
  covers-calls (call ∷ rest) c = step call rest c.0 (answered-calls (seen call) rest c.1)

  pub ready-calls : (calls : List Call) → Ready r at calls stops goes → R calls
  ready-calls calls ready = ⊎_elim
      (λ w. gone r.high calls (ready.within w))
      (λ l. ⊎_elim (λ b. covers-calls calls (ready.asked l b)) (λ e. stopped stop.Exhausted calls (ready.ended l e)) (cases_lt at r.end))
      (cases_lt at r.high)

-- the same with other words for what follows
module _ (r : Reach) (at : ℕ) (stops now : Stop → List Call → Type 0) (goes then_ : ℕ → List Call → Type 0)
    (stopped : (why : Stop) (rest : List Call) → stops why rest → now why rest)
    (gone : (high : ℕ) (rest : List Call) → goes high rest → then_ high rest) where
  answered-as : (answered : KeeperAnswer) (rest : List Call) → Answered answered (λ why. stops why rest) (goes (cover_of r at) rest) → Answered answered (λ why. now why rest) (then_ (cover_of r at) rest)
  answered-as answer.Done rest a = gone (cover_of r at) rest a
  answered-as (answer.Taken taken) rest a = a
  answered-as (answer.First first) rest a = a
  answered-as (answer.Look spent) rest a = a
  answered-as (answer.Refused why) rest a = go (stop_of why) a
    where
      go : (x : Option Stop) → MatchOption x ⊥ (λ why. stops why rest) → MatchOption x ⊥ (λ why. now why rest)
      go None a = a
      go (Some why) a = stopped why rest a

  covers-as : (calls : List Call) → Covers r at calls stops goes → Covers r at calls now then_
  covers-as [] c = c
  covers-as (call ∷ rest) c = (c.0, answered-as (seen call) rest c.1)

  pub ready-as : (calls : List Call) → Ready r at calls stops goes → Ready r at calls now then_
  ready-as calls ready = record {
    within = λ low. gone r.high calls (ready.within low);
    ended = λ high end. stopped stop.Exhausted calls (ready.ended high end);
    asked = λ high low. covers-as calls (ready.asked high low);
  }

-- a call that asks for a cover
pub record IsCover (call : Call) : Type 0 where
  pub spir : ℕ
  pub kind : Kind
  pub child : ℕ
  pub epoch : ℕ
  pub upto : ℕ
  pub asked : call.asked ≡ ask.Cover spir kind child epoch upto

-- what holds of the calls of a turn in which several numbers get ready
module _ {past : List Turn} {member : ℕ} (R : List Call → Type 0) (stops : Type 0) (goes : List Call → Type 0)
    (step : (call : Call) (rest : List Call) → IsCover call → R rest → R (call ∷ rest))
    (stopped : (rest : List Call) → Last rest stops → R rest)
    (gone : (rest : List Call) → goes rest → R rest) where
  pub are_ready-calls : (needs : List (Need past member)) (calls : List Call) → AreReady needs calls stops goes → R calls
  are_ready-calls [] calls so = gone calls so
  are_ready-calls (need ∷ needs) calls ready = ready-calls R (reach_of need.held need.c) need.number (λ why rest. Last rest stops) (λ high rest. AreReady needs rest stops goes)
      (λ call rest asked more. step call rest (record { spir = _; kind = _; child = _; epoch = _; upto = _; asked = asked }) more)
      (λ why rest last. stopped rest last)
      (λ high rest more. are_ready-calls needs rest more)
      calls ready

-- a call that asks for a range of a pool
pub record IsLease (call : Call) : Type 0 where
  pub pool : Pool
  pub asked : call.asked ≡ ask.Lease pool LEASED_NUMBERS

-- what holds of the calls of a turn in which a member uses numbers
module _ (R : List Call → Type 0)
    (covers : (call : Call) (rest : List Call) → IsCover call → R rest → R (call ∷ rest))
    (leases : (call : Call) → IsLease call → R (call ∷ []))
    (none : R []) where
  lot-calls : (lot : Option LotNeed) (held : Pool → Option Holding) (without goes : Type 0) (calls : List Call) → IsLotReady lot held calls without goes → R calls
  lot-calls None held without goes calls last = subst R (sym last.ended) none
  lot-calls (Some need) held without goes calls (Left h holds below is ended so) = subst R (sym ended) none
  lot-calls (Some need) held without goes calls (Leased call one asked sees so) = subst R (sym one) (leases call (record { pool = need.pool; asked = asked }))
  lot-calls (Some need) held without goes calls (InVain call why one asked sees so) = subst R (sym one) (leases call (record { pool = need.pool; asked = asked }))

  pub used-calls : {past : List Turn} {event : Event} {step : Step} (calls : List Call) → MemberUses past event calls step → R calls
  used-calls {past} {event} {step} calls u = are_ready-calls R (Rests step) _ covers
      (λ rest last. subst R (sym last.ended) none)
      (λ rest so. lot-calls u.lot (lots_of past u.member) (Rests step ⊎ UsesIt (map spent_by u.needs) event step) (UsesIt (with_lot u.lot (map spent_by u.needs)) event step) rest so)
      u.needs calls u.ready
