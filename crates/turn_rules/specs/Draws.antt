-- What a member does with the counters that it holds.
use Rattle.std.specs.Prelude.{ℕ, ◌≡◌, MatchOption, Option, Some, None, List, [], ◌∷◌}
use Rattle.events.specs.declared.verdict.Refusal.{Refusal}
use Rattle.events.specs.declared.verdict.Refusal.TheVariants as refusal
use Rattle.events.specs.declared.verdict.Verdict.{Verdict}
use Rattle.events.specs.declared.verdict.Verdict.TheVariants as out
use Rattle.ha_base.specs.declared.counter_names.CounterName.{CounterName}
use Rattle.ha_base.specs.declared.counter_names.End.TheVariants as end
use Rattle.ha_base.specs.declared.counter_names.Kind.{Kind}
use Rattle.ha_base.specs.declared.counter_names.Kind.TheVariants as kind
use Rattle.horizons.specs.Ready.{Ready}
use Rattle.horizons.specs.Reaches.{Reach}
use Rattle.horizons.specs.declared.stop.Stop.{Stop}
use Rattle.horizons.specs.declared.stop.Stop.TheVariants as stop
use Rattle.keeper_book.specs.CounterEnds.{end_of}
use Rattle.keeper_book.specs.Counters.{five_at}
use Rattle.keeper_book.specs.Told.{seen}
use Rattle.keeper_book.specs.declared.calls.Call.{Call}
use Rattle.keeper_book.specs.declared.calls.KeeperAnswer.{KeeperAnswer}
use Rattle.keeper_book.specs.declared.calls.KeeperAnswer.TheVariants as answer
use Rattle.keeper_book.specs.declared.calls.KeeperAsk.TheVariants as ask
use Rattle.keeper_book.specs.declared.counters.Counter.{Counter}
use Rattle.keeper_book.specs.declared.counters.Counter.TheVariants as counter
use Rattle.keeper_book.specs.declared.faults.KeeperFault.{KeeperFault}
use Rattle.keeper_book.specs.declared.faults.KeeperFault.TheVariants as fault
use Rattle.keeper_book.specs.declared.records.Record.{Record}
use Rattle.turn_rules.specs.Held.{Held}

abbrev pub counter_kind : Counter → Kind
counter_kind counter.EspOut = kind.EspOut
counter_kind counter.EspIn = kind.EspIn
counter_kind counter.Iv = kind.Iv
counter_kind counter.Ask = kind.Ask
counter_kind counter.Answer = kind.Answer

abbrev pub child_of : Counter → ℕ
child_of counter.EspOut = 1
child_of counter.EspIn = 1
child_of c = 0

-- the cluster's counter of an association
abbrev pub counter_name : Record → Counter → CounterName
counter_name sa c = record {
  origin = sa.origin;
  kind = counter_kind c;
  child = child_of c;
  end = end.Cluster;
}

-- how far a counter of what is held reaches
abbrev pub reach_of : Held → Counter → Reach
reach_of held c = record {
  name = counter_name held.sa c;
  counter = c;
  spir = held.sa.spir;
  epoch = held.epoch;
  base = five_at held.bases c;
  next = five_at held.nexts c;
  high = five_at held.highs c;
  end = end_of held.sa c;
}

-- the refusal that a stop is
abbrev pub refusal_of_stop : Stop → Refusal
refusal_of_stop stop.Keeper = refusal.KeeperFault
refusal_of_stop (stop.Replaced epoch) = refusal.Replaced epoch
refusal_of_stop stop.Exhausted = refusal.Exhausted
refusal_of_stop stop.Closed = refusal.Closed
refusal_of_stop stop.Unknown = refusal.Unknown

-- the refusal of a takeover that a keeper's answer is
abbrev pub refusal_of_takeover : KeeperFault → Option Refusal
refusal_of_takeover fault.Failed = Some refusal.KeeperFault
refusal_of_takeover fault.Unknown = Some refusal.Unknown
refusal_of_takeover fault.Closed = Some refusal.Closed
refusal_of_takeover (fault.Full limit) = Some (refusal.Full limit)
refusal_of_takeover why = None

-- and of an import
abbrev pub refusal_of_import : KeeperFault → Option Refusal
refusal_of_import fault.Failed = Some refusal.KeeperFault
refusal_of_import fault.SpiInUse = Some refusal.SpiInUse
refusal_of_import (fault.Full limit) = Some (refusal.Full limit)
refusal_of_import why = None

-- no call is left, and the event came out so
pub record Concludes (calls : List Call) (verdict is : Verdict) : Type 0 where
  pub no_more : calls ≡ []
  pub said : verdict ≡ is

-- the next ESP number is drawn, once it is ready
abbrev pub Draws : Held → List Call → Verdict → Type 0
Draws held calls verdict = Ready (reach_of held counter.EspOut)
    (five_at held.nexts counter.EspOut) calls
    (λ why rest. Concludes rest verdict (out.Refused (refusal_of_stop why)))
    (λ high rest. Concludes rest verdict (out.Number (five_at held.nexts counter.EspOut)))

-- what a takeover comes out as; what is granted is the record of the association
abbrev pub Grants : ℕ → KeeperAnswer → Verdict → Type 0
Grants spir (answer.Taken taken) verdict = (taken.sa.spir ≡ spir)
    × (verdict ≡ out.Owned taken.epoch taken.bases)
Grants spir (answer.Refused why) verdict = MatchOption (refusal_of_takeover why) ⊥
    (λ r. verdict ≡ out.Refused r)
Grants spir answered verdict = ⊥

-- an association is taken over by one call
abbrev pub TakesOver : ℕ → ℕ → List Call → Verdict → Type 0
TakesOver spir member [] verdict = ⊥
TakesOver spir member (call ∷ []) verdict = (call.asked ≡ ask.TakeOver spir member)
    × Grants spir (seen call) verdict
TakesOver spir member (call ∷ other ∷ more) verdict = ⊥

-- what an import comes out as
abbrev pub Admits : KeeperAnswer → Verdict → Type 0
Admits answer.Done verdict = verdict ≡ out.Entered
Admits (answer.Refused why) verdict = MatchOption (refusal_of_import why) ⊥
    (λ r. verdict ≡ out.Refused r)
Admits answered verdict = ⊥

-- an association is entered by one call
abbrev pub EntersRecord : Record → List Call → Verdict → Type 0
EntersRecord sa [] verdict = ⊥
EntersRecord sa (call ∷ []) verdict = (call.asked ≡ ask.Enter sa) × Admits (seen call) verdict
EntersRecord sa (call ∷ other ∷ more) verdict = ⊥
