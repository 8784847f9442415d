-- What an end does with an IKE message: it rests, or answers a request that is new to what it holds.
use Rattle.std.proofs.Common.{◌≡◌, ℕ, Option, Some, None, MatchOption, Result, Ok, Err, List, [], ⊎_elim, refl, ap, sym, ◌∙◌, subst}
use Rattle.std.proofs.lemmas.Option.{same_Some}
use Rattle.std.specs.Option.{option_map}
use Rattle.events.specs.declared.ike_outcomes.IkeDrop.TheVariants as drop
use Rattle.events.specs.declared.ike_outcomes.Kept.{Kept}
use Rattle.events.specs.declared.turn.Step.{Step}
use Rattle.events.specs.declared.verdict.Verdict.{Verdict}
use Rattle.events.specs.declared.verdict.Verdict.TheVariants as out
use Rattle.ha_base.specs.declared.counter_names.CounterName.{CounterName}
use Rattle.ha_base.specs.declared.counter_names.End.{End}
use Rattle.ha_base.specs.declared.counter_names.End.TheVariants as end
use Rattle.ike_sas.specs.Arrivals.{IsArrival, IsArrivalAt, IsByWindow, IsGoodResponse, IsMessageArrival, IsNewThere, IsOpenedArrival, IsOrdinaryRequest, IsRequestArrival, IsResponseArrival, IsSyncResponse, bad_in, is_own_flag, is_sealed, is_synchronisation}
use Rattle.ike_sas.specs.Held.{IkeHeld, is_initiator}
use Rattle.ike_sas.specs.declared.arrival.Arrival.{Arrival}
use Rattle.ike_sas.specs.declared.arrival.Arrival.TheVariants as arrival
use Rattle.ike_sas.specs.declared.exchanges.TheConstants.{IKE_SESSION_RESUME}
use Rattle.ike_values.specs.Values.{PayloadValue}
use Rattle.ike_values.specs.declared.fault.Bad.{Bad}
use Rattle.ike_values.specs.declared.header.Message.{Message}
use Rattle.ike_window.specs.Kept.{kept_octets}
use Rattle.ike_window.specs.Requests.{IsNewRequest, IsRequestJudgedBy}
use Rattle.ike_window.specs.Windows.{IsAnswered}
use Rattle.ike_window.specs.declared.judged.Judged.{Judged}
use Rattle.ike_window.specs.declared.judged.Judged.TheVariants as judged
use Rattle.keeper_book.specs.declared.calls.Call.{Call}
use Rattle.sk_payload.specs.declared.open.Opened.{Opened}
use Rattle.turn_laws.proofs.Deeds.{IsIdle, Rests, says-rests}
use Rattle.turn_rules.proofs.Cases.{by_bool}
use Rattle.turn_rules.specs.Messages.{GivesAgain, Listener, TakesArrival, TakesInner, TakesMessage, held_for}
use Rattle.std.specs.Prelude.{nat_lt, ◌==◌, ◌&&◌}

by_option : {A X Z : Type 0} {Y : A → Type 0} (o : Option A) → (X → Z) → ((a : A) → Y a → Z) → MatchOption o X Y → Z
by_option None f g x = f x
by_option (Some a) f g x = g a x

-- it is no new request
abbrev IsOther : Arrival → Type 0
IsOther (arrival.New request) = ⊥
IsOther comes = Unit {0}

-- where it is a new request, it is this one, which is new to what is held
abbrev IsNewAt : IkeHeld → Opened → Arrival → Type 0
IsNewAt held opened (arrival.New request) = (request ≡ opened) × IsNewRequest held.answered.low (IsAnswered held.answered) opened.header.id
IsNewAt held opened comes = Unit {0}

other-new : (held : IkeHeld) (opened : Opened) (comes : Arrival) → IsOther comes → IsNewAt held opened comes
other-new held opened (arrival.New request) other = absurd other
other-new held opened comes other = tt

abbrev dropped : (held : IkeHeld) (opened : Opened) (comes is : Arrival) → IsOther is → comes ≡ is → IsNewAt held opened comes
dropped held opened comes is other e = other-new held opened comes (subst (λ x. IsOther x) (sym e) other)

module _ (held : IkeHeld) (opened : Opened) (comes : Arrival) where
  window-new : (says : Judged) → IsRequestJudgedBy held.answered.floor held.answered.low (IsAnswered held.answered) opened.header.id says → IsByWindow says held opened comes → IsNewAt held opened comes
  window-new judged.New is by = subst (λ x. IsNewAt held opened x) (sym by) (refl, is)
  window-new judged.Repeat is by = dropped held opened comes (arrival.Repeat opened.header.id by.0) tt by.1
  window-new judged.Ahead is by = dropped held opened comes (arrival.Dropped (drop.Ahead opened.header.id)) tt by
  window-new judged.Old is by = dropped held opened comes (arrival.Dropped (drop.Old opened.header.id)) tt by

  ordinary-new : IsOrdinaryRequest held opened comes → IsNewAt held opened comes
  ordinary-new is = by_bool (nat_lt opened.header.id held.answered.floor)
      (λ e. dropped held opened comes (arrival.Dropped (drop.Old opened.header.id)) tt e)
      (λ more. by_bool held.synced
      (λ inside. window-new inside.0 inside.1 inside.2)
      (λ e. dropped held opened comes (arrival.Dropped (drop.NotSynced opened.header.id)) tt e) more) is

  request-new : IsRequestArrival held opened comes → IsNewAt held opened comes
  request-new is = by_bool (is_initiator held.keys.end && is_synchronisation opened)
      (λ e. dropped held opened comes (arrival.Synchronisation opened) tt e) ordinary-new is

  sync-new : (side : End) → IsSyncResponse side opened comes → IsNewAt held opened comes
  sync-new end.Cluster e = dropped held opened comes (arrival.SyncResponse opened) tt e
  sync-new end.Peer e = dropped held opened comes (arrival.Dropped drop.NotAsked) tt e

  good-new : IsGoodResponse held opened comes → IsNewAt held opened comes
  good-new is = by_bool (is_synchronisation opened) (sync-new held.keys.end)
      (λ more. by_option (kept_octets opened.header.id held.asked)
      (λ e. dropped held opened comes (arrival.Dropped drop.NotAsked) tt e)
      (λ octets e. dropped held opened comes (arrival.Response opened) tt e) more) is

  response-new : IsResponseArrival held opened comes → IsNewAt held opened comes
  response-new is = by_option (bad_in opened.inner) good-new (λ bad e. dropped held opened comes (arrival.Dropped (drop.Bad bad)) tt e) is

  opened-new : IsOpenedArrival held opened comes → IsNewAt held opened comes
  opened-new is = by_bool opened.header.response response-new request-new is

-- a new request is new to what is held under its SPIs
abbrev IsNewUnder : (ℕ → ℕ → Option IkeHeld) → Arrival → Type 0
IsNewUnder held_under (arrival.New request) = IsNewThere held_under request
IsNewUnder held_under comes = Unit {0}

module _ (held_under : ℕ → ℕ → Option IkeHeld) (comes : Arrival) where
  other-under : (is : Arrival) → IsOther is → comes ≡ is → IsNewUnder held_under comes
  other-under is other e = go comes (subst (λ x. IsOther x) (sym e) other)
    where
      go : (x : Arrival) → IsOther x → IsNewUnder held_under x
      go (arrival.New request) other = absurd other
      go x other = tt

  under-new : (held : IkeHeld) (opened : Opened) → held_under opened.header.spii opened.header.spir ≡ Some held → IsNewAt held opened comes → IsNewUnder held_under comes
  under-new held opened found new = go comes new
    where
      go : (x : Arrival) → IsNewAt held opened x → IsNewUnder held_under x
      go (arrival.New request) new = subst (λ r. IsNewThere held_under r) (sym new.0) (held, found, new.1)
      go x new = tt

  at-new : (held : IkeHeld) (octets : List ℕ) (message : Message) → held_under message.header.spii message.header.spir ≡ Some held → IsArrivalAt held octets message comes → IsNewUnder held_under comes
  at-new held octets message found is = ⊎_elim
      (λ none. other-under (arrival.Dropped drop.NotOpened) tt none.1)
      (λ got. under-new held got.0 (subst (λ header. held_under header.spii header.spir ≡ Some held) (sym got.2) found) (opened-new held got.0 comes got.3))
      is

  message-new : (side : End) (octets : List ℕ) (message : Message) → IsMessageArrival held_under side octets message comes → IsNewUnder held_under comes
  message-new side octets message is = by_bool (is_own_flag side message.header.initiator)
      (λ e. other-under (arrival.Dropped drop.Direction) tt e)
      (λ a. by_bool (message.header.exchange == IKE_SESSION_RESUME)
      (λ e. other-under (arrival.Resumption message) tt e)
      (λ b. by_bool (is_sealed message) (found (held_under message.header.spii message.header.spir) refl)
      (λ e. other-under (arrival.Dropped (drop.Exchange message.header.exchange)) tt e) b) a) is
    where
      found : (x : Option IkeHeld) → held_under message.header.spii message.header.spir ≡ x → MatchOption x (comes ≡ arrival.Dropped drop.UnknownSpi) (λ held. IsArrivalAt held octets message comes) → IsNewUnder held_under comes
      found None e is = other-under (arrival.Dropped drop.UnknownSpi) tt is
      found (Some held) e is = at-new held octets message e is

  arrival-new : (side : End) (octets : List ℕ) → IsArrival held_under side octets comes → IsNewUnder held_under comes
  arrival-new side octets is = ⊎_elim
      (λ bad. other-under (arrival.Dropped (drop.Bad bad.0)) tt bad.2)
      (λ good. message-new side octets good.0 good.2)
      is

-- What an end does with the octets of an IKE message: it makes no call and rests, or answers a request that is new to what it holds under the request's SPIs, or synchronises.
pub data Taken {X : Type 0} (listener : Listener X) (calls : List Call) (step : Step) : Type 0 where
  Rested_by : calls ≡ [] → Rests step → Taken listener calls step
  Answered_by : (held : X) (request : Opened) → held_for listener request ≡ Some held → IsNewRequest (listener.ike held).answered.low (IsAnswered (listener.ike held).answered) request.header.id
      → listener.Answers held request calls step → Taken listener calls step
  Synchronised_by : (held : X) (request : Opened) → held_for listener request ≡ Some held → listener.Synchronises held request calls step → Taken listener calls step
  Sync_taken_by : (held : X) (response : Opened) → held_for listener response ≡ Some held → listener.TakesSync held response calls step → Taken listener calls step

pub again-rests : (verdict : Verdict) (octets : List ℕ) (step : Step) → IsIdle verdict → GivesAgain verdict octets step → Rests step
again-rests verdict octets step idle again = record { idle = subst (λ v. IsIdle v) (sym again.said) idle; served = again.served; seals = again.seals }

module _ {X : Type 0} (listener : Listener X) (calls : List Call) (step : Step) where
  -- a new request is new to what is held of its association
  abbrev IsNewHere : Opened → Type 0
  IsNewHere request = (held : X) → held_for listener request ≡ Some held → IsNewRequest (listener.ike held).answered.low (IsAnswered (listener.ike held).answered) request.header.id

  abbrev IfNewHere : Arrival → Type 0
  IfNewHere (arrival.New request) = IsNewHere request
  IfNewHere comes = Unit {0}

  inner-rests : (Keeps : List PayloadValue → Kept → Type 0) (name : CounterName) (id : ℕ) (inner : Result (List PayloadValue) Bad) → TakesInner Keeps name id inner step → Rests step
  inner-rests Keeps name id (Ok payloads) takes = says-rests step (out.Reply name id takes.2.reply takes.0 _) tt takes.2.says
  inner-rests Keeps name id (Err bad) takes = absurd takes

  found-request : (request : Opened) (x : Option X) → held_for listener request ≡ x → IsNewHere request → MatchOption x ⊥ (λ held. listener.Answers held request calls step) → Taken listener calls step
  found-request request None e new takes = absurd takes
  found-request request (Some held) e new takes = Answered_by held request e (new held e) takes

  found-response : (response : Opened) (x : Option X) → MatchOption x ⊥ (λ held. TakesInner listener.Keeps (listener.asks held) response.header.id response.inner step) → Rests step
  found-response response None takes = absurd takes
  found-response response (Some held) takes = inner-rests listener.Keeps (listener.asks held) response.header.id response.inner takes

  found-sync : (request : Opened) (x : Option X) → held_for listener request ≡ x → MatchOption x ⊥ (λ held. listener.Synchronises held request calls step) → Taken listener calls step
  found-sync request None e takes = absurd takes
  found-sync request (Some held) e takes = Synchronised_by held request e takes

  found-answer : (response : Opened) (x : Option X) → held_for listener response ≡ x → MatchOption x ⊥ (λ held. listener.TakesSync held response calls step) → Taken listener calls step
  found-answer response None e takes = absurd takes
  found-answer response (Some held) e takes = Sync_taken_by held response e takes

  arrival-taken : (comes : Arrival) → IfNewHere comes → TakesArrival listener comes calls step → Taken listener calls step
  arrival-taken (arrival.Dropped why) new takes = Rested_by takes.0 (says-rests step (out.DroppedIke why) tt takes.1)
  arrival-taken (arrival.Resumption message) new takes = Rested_by takes.0 (says-rests step (out.DroppedIke (drop.Exchange IKE_SESSION_RESUME)) tt takes.1)
  arrival-taken (arrival.Repeat id datagram) new takes = Rested_by takes.0 (again-rests (out.Repeated id) datagram.octets.octets step tt takes.1)
  arrival-taken (arrival.New request) new takes = found-request request (held_for listener request) refl new takes
  arrival-taken (arrival.Response response) new takes = Rested_by takes.0 (found-response response (held_for listener response) takes.1)
  arrival-taken (arrival.Synchronisation request) new takes = found-sync request (held_for listener request) refl takes
  arrival-taken (arrival.SyncResponse response) new takes = found-answer response (held_for listener response) refl takes

  pub message-taken : (octets : List ℕ) → TakesMessage listener octets calls step → Taken listener calls step
  message-taken octets takes = arrival-taken takes.comes
      (here takes.comes (arrival-new (λ spii spir. option_map listener.ike (listener.held_under spii spir)) takes.comes listener.end octets takes.is)) takes.takes
    where
      here : (x : Arrival) → IsNewUnder (λ spii spir. option_map listener.ike (listener.held_under spii spir)) x → IfNewHere x
      here (arrival.New request) there = λ held is.
          let same : listener.ike held ≡ there.0 = same_Some (listener.ike held) there.0 (sym (ap (option_map listener.ike) is) ∙ there.1) in
          subst (λ (h : IkeHeld). IsNewRequest h.answered.low (IsAnswered h.answered) request.header.id) (sym same) there.2
      here x there = tt
