-- What an end does with an IKE message that has to do with a synchronisation.
use Rattle.std.proofs.Common.{◌≡◌, ℕ, false, Option, Some, None, MatchOption, Result, Ok, Err, List, [], ⊎_elim, ◌⊎◌, inl, inr, refl, ap, sym, ◌∙◌, subst}
use Rattle.std.proofs.lemmas.Bool.{cases_lt}
use Rattle.std.proofs.lemmas.Option.{same_Some}
use Rattle.std.specs.Option.{option_map}
use Rattle.std.specs.Prelude.{nat_lt, ◌==◌, ◌&&◌}
use Rattle.events.specs.declared.ike_outcomes.IkeDrop.TheVariants as drop
use Rattle.events.specs.declared.turn.Step.{Step}
use Rattle.events.specs.declared.verdict.Verdict.TheVariants as out
use Rattle.ha_base.specs.declared.counter_names.CounterName.{CounterName}
use Rattle.ha_base.specs.declared.counter_names.End.{End}
use Rattle.ha_base.specs.declared.counter_names.End.TheVariants as end
use Rattle.horizons.specs.Ready.{Ready}
use Rattle.horizons.specs.declared.stop.Stop.{Stop}
use Rattle.ike_sas.specs.Answers.{error_of}
use Rattle.ike_sas.specs.Arrivals.{IsArrival, IsArrivalAt, IsByWindow, IsGoodResponse, IsMessageArrival, IsOpenedArrival, IsOrdinaryRequest, IsRequestArrival, IsResponseArrival, IsSyncResponse, bad_in, is_own_flag, is_sealed, is_synchronisation}
use Rattle.ike_sas.specs.Held.{IkeHeld, is_initiator}
use Rattle.ike_sas.specs.declared.answers.RequestError.{RequestError}
use Rattle.ike_sas.specs.declared.arrival.Arrival.{Arrival}
use Rattle.ike_sas.specs.declared.arrival.Arrival.TheVariants as arrival
use Rattle.ike_sas.specs.declared.exchanges.TheConstants.{IKE_SESSION_RESUME}
use Rattle.ike_values.specs.Values.{PayloadValue}
use Rattle.ike_values.specs.declared.fault.Bad.{Bad}
use Rattle.ike_values.specs.declared.header.Message.{Message}
use Rattle.ike_window.specs.Kept.{kept_octets}
use Rattle.ike_window.specs.declared.judged.Judged.{Judged}
use Rattle.ike_window.specs.declared.judged.Judged.TheVariants as judged
use Rattle.keeper_book.specs.CounterEnds.{end_of}
use Rattle.keeper_book.specs.Counters.{five_at}
use Rattle.keeper_book.specs.declared.calls.Call.{Call}
use Rattle.keeper_book.specs.declared.counters.Counter.{Counter}
use Rattle.keeper_book.specs.declared.counters.Counter.TheVariants as counter
use Rattle.sk_payload.specs.Answers.{IsOpening}
use Rattle.sk_payload.specs.declared.open.Opened.{Opened}
use Rattle.sync_exchange.specs.Answers.{IsMemberAnswer, IsPeerAnswer}
use Rattle.sync_exchange.specs.Notifications.{IsRequest}
use Rattle.sync_exchange.specs.declared.peer.Accepted.{Accepted}
use Rattle.sync_exchange.specs.declared.request.SyncRequest.{SyncRequest}
use Rattle.sync_exchange.specs.declared.sync_drop.SyncDrop.{SyncDrop}
use Rattle.sync_exchange.specs.declared.sync_drop.SyncDrop.TheVariants as why
use Rattle.turn_laws.proofs.Covers.{ready-calls}
use Rattle.turn_rules.proofs.Cases.{by_bool}
use Rattle.turn_rules.proofs.NoSynchronisation.{is_of_sync}
use Rattle.turn_rules.specs.Draws.{counter_name, reach_of, refusal_of_stop}
use Rattle.turn_rules.specs.Held.{Held}
use Rattle.events.specs.declared.ike_outcomes.Kept.{Kept}
use Rattle.ha_base.specs.declared.outside.Moment.{Moment}
use Rattle.ike_sas.specs.declared.ticket_messages.TicketAnswer.{TicketAnswer}
use Rattle.turn_laws.proofs.Tickets.{HasLot, tells-calls}
use Rattle.turn_rules.specs.Configurations.{fresh_octets}
use Rattle.turn_rules.specs.MemberStates.{MemberHeld}
use Rattle.turn_rules.specs.MemberTickets.{TellsTicket}
use Rattle.turn_rules.specs.MemberMessages.{HeldAnswers, HeldTakesSync, ReadiesThen, ReadiesWithIv, TakesSyncAnswer, TakesSyncOf, awaits_sync, cluster_keys, held_ike, member_listener, of_spii, sync_nonce}
use Rattle.turn_rules.specs.Messages.{AnswersRequest, ExecutesRequest, Listener, RefusesRequest, TakesArrival, TakesInner, TakesMessage, held_for}
use Rattle.turn_rules.specs.PeerMessages.{AcceptsSync, AnswersSync, SlotAnswers, SlotSynchronises, has_spis, peer_keys, peer_listener, slot_ike, sync_state}
use Rattle.turn_rules.specs.Slots.{Slot, first_slot, peer_counter}
use Rattle.turn_rules.specs.Steps.{RefusesThen, Says}

by_option : {A X Z : Type 0} {Y : A → Type 0} (o : Option A) → (X → Z) → ((a : A) → Y a → Z) → MatchOption o X Y → Z
by_option None f g x = f x
by_option (Some a) f g x = g a x

-- where the arrival is one of a synchronisation, it is the message that was opened
abbrev IsSyncAt : Opened → Arrival → Type 0
IsSyncAt opened (arrival.Synchronisation request) = request ≡ opened
IsSyncAt opened (arrival.SyncResponse response) = response ≡ opened
IsSyncAt opened comes = Unit {0}

module _ (held : IkeHeld) (opened : Opened) (comes : Arrival) where
  is-sync : (is : Arrival) → IsSyncAt opened is → comes ≡ is → IsSyncAt opened comes
  is-sync is so e = subst (λ x. IsSyncAt opened x) (sym e) so

  window-sync : (says : Judged) → IsByWindow says held opened comes → IsSyncAt opened comes
  window-sync judged.New by = is-sync (arrival.New opened) tt by
  window-sync judged.Repeat by = is-sync (arrival.Repeat opened.header.id by.0) tt by.1
  window-sync judged.Ahead by = is-sync (arrival.Dropped (drop.Ahead opened.header.id)) tt by
  window-sync judged.Old by = is-sync (arrival.Dropped (drop.Old opened.header.id)) tt by

  ordinary-sync : IsOrdinaryRequest held opened comes → IsSyncAt opened comes
  ordinary-sync is = by_bool (nat_lt opened.header.id held.answered.floor)
      (λ e. is-sync (arrival.Dropped (drop.Old opened.header.id)) tt e)
      (λ more. by_bool held.synced
      (λ inside. window-sync inside.0 inside.2)
      (λ e. is-sync (arrival.Dropped (drop.NotSynced opened.header.id)) tt e) more) is

  request-sync : IsRequestArrival held opened comes → IsSyncAt opened comes
  request-sync is = by_bool (is_initiator held.keys.end && is_synchronisation opened)
      (λ e. is-sync (arrival.Synchronisation opened) refl e) ordinary-sync is

  answer-sync : (side : End) → IsSyncResponse side opened comes → IsSyncAt opened comes
  answer-sync end.Cluster e = is-sync (arrival.SyncResponse opened) refl e
  answer-sync end.Peer e = is-sync (arrival.Dropped drop.NotAsked) tt e

  good-sync : IsGoodResponse held opened comes → IsSyncAt opened comes
  good-sync is = by_bool (is_synchronisation opened) (answer-sync held.keys.end)
      (λ more. by_option (kept_octets opened.header.id held.asked)
      (λ e. is-sync (arrival.Dropped drop.NotAsked) tt e)
      (λ octets e. is-sync (arrival.Response opened) tt e) more) is

  response-sync : IsResponseArrival held opened comes → IsSyncAt opened comes
  response-sync is = by_option (bad_in opened.inner) good-sync (λ bad e. is-sync (arrival.Dropped (drop.Bad bad)) tt e) is

  opened-sync : IsOpenedArrival held opened comes → IsSyncAt opened comes
  opened-sync is = by_bool opened.header.response response-sync request-sync is

-- a message opens under the keys of what is held under its SPIs
abbrev OpensUnder : (ℕ → ℕ → Option IkeHeld) → List ℕ → Opened → Type 0
OpensUnder held_under octets opened = (held : IkeHeld) × (held_under opened.header.spii opened.header.spir ≡ Some held)
    × IsOpening held.keys.receiving.octets octets (Ok opened)

-- so does one of a synchronisation
abbrev SyncOpens : (ℕ → ℕ → Option IkeHeld) → List ℕ → Arrival → Type 0
SyncOpens held_under octets (arrival.Synchronisation request) = OpensUnder held_under octets request
SyncOpens held_under octets (arrival.SyncResponse response) = OpensUnder held_under octets response
SyncOpens held_under octets comes = Unit {0}

module _ (held_under : ℕ → ℕ → Option IkeHeld) (octets : List ℕ) (comes : Arrival) where
  no-sync : (is : Arrival) → SyncOpens held_under octets is → comes ≡ is → SyncOpens held_under octets comes
  no-sync is so e = subst (λ x. SyncOpens held_under octets x) (sym e) so

  under-sync : (opened : Opened) → OpensUnder held_under octets opened → IsSyncAt opened comes → SyncOpens held_under octets comes
  under-sync opened opens is = go comes is
    where
      go : (x : Arrival) → IsSyncAt opened x → SyncOpens held_under octets x
      go (arrival.Synchronisation request) same = subst (λ r. OpensUnder held_under octets r) (sym same) opens
      go (arrival.SyncResponse response) same = subst (λ r. OpensUnder held_under octets r) (sym same) opens
      go x is = tt

  at-sync : (held : IkeHeld) (message : Message) → held_under message.header.spii message.header.spir ≡ Some held → IsArrivalAt held octets message comes
      → SyncOpens held_under octets comes
  at-sync held message found is = ⊎_elim
      (λ none. no-sync (arrival.Dropped drop.NotOpened) tt none.1)
      (λ got. under-sync got.0 (held, subst (λ header. held_under header.spii header.spir ≡ Some held) (sym got.2) found, got.1)
      (opened-sync held got.0 comes got.3))
      is

  message-sync : (side : End) (message : Message) → IsMessageArrival held_under side octets message comes → SyncOpens held_under octets comes
  message-sync side message is = by_bool (is_own_flag side message.header.initiator)
      (λ e. no-sync (arrival.Dropped drop.Direction) tt e)
      (λ a. by_bool (message.header.exchange == IKE_SESSION_RESUME)
      (λ e. no-sync (arrival.Resumption message) tt e)
      (λ b. by_bool (is_sealed message) (found (held_under message.header.spii message.header.spir) refl)
      (λ e. no-sync (arrival.Dropped (drop.Exchange message.header.exchange)) tt e) b) a) is
    where
      found : (x : Option IkeHeld) → held_under message.header.spii message.header.spir ≡ x
          → MatchOption x (comes ≡ arrival.Dropped drop.UnknownSpi) (λ held. IsArrivalAt held octets message comes) → SyncOpens held_under octets comes
      found None e is = no-sync (arrival.Dropped drop.UnknownSpi) tt is
      found (Some held) e is = at-sync held message e is

  arrival-sync : (side : End) → IsArrival held_under side octets comes → SyncOpens held_under octets comes
  arrival-sync side is = ⊎_elim
      (λ bad. no-sync (arrival.Dropped (drop.Bad bad.0)) tt bad.2)
      (λ good. message-sync side good.0 good.2)
      is

abbrev IsOther : Step → Type 0
IsOther step = is_of_sync step.verdict ≡ false

-- a synchronisation, or the response to one, is taken by what is held under its SPIs, and opens under its keys
record TakenThere {X : Type 0} (listener : Listener X) (octets : List ℕ) (takes : X → Opened → Type 0) : Type 0 where
  pub there : X
  pub message : Opened
  pub found : held_for listener message ≡ Some there
  pub opens : IsOpening (listener.ike there).keys.receiving.octets octets (Ok message)
  pub does : takes there message

data Heard {X : Type 0} (listener : Listener X) (octets : List ℕ) (calls : List Call) (step : Step) : Type 0 where
  Nothing_said : IsOther step → Heard listener octets calls step
  New_answered : (there : X) (request : Opened) → listener.Answers there request calls step → Heard listener octets calls step
  Request_heard : TakenThere listener octets (λ there request. listener.Synchronises there request calls step) → Heard listener octets calls step
  Response_heard : TakenThere listener octets (λ there response. listener.TakesSync there response calls step) → Heard listener octets calls step

module _ {X : Type 0} (listener : Listener X) (octets : List ℕ) (calls : List Call) (step : Step) where
  abbrev under : ℕ → ℕ → Option IkeHeld
  under spii spir = option_map listener.ike (listener.held_under spii spir)

  taken-there : (takes : X → Opened → Type 0) (message : Opened) → OpensUnder under octets message → (x : Option X) → held_for listener message ≡ x
      → MatchOption x ⊥ (λ there. takes there message)
      → TakenThere listener octets takes
  taken-there takes message opens None e does = absurd does
  taken-there takes message opens (Some there) e does =
      let same : listener.ike there ≡ opens.0 = same_Some (listener.ike there) opens.0 (sym (ap (option_map listener.ike) e) ∙ opens.1) in
      record {
        there = there;
        message = message;
        found = e;
        opens = subst (λ (h : IkeHeld). IsOpening h.keys.receiving.octets octets (Ok message))
            (sym same) opens.2;
        does = does;
      }

  new-answered : (request : Opened) (x : Option X) → MatchOption x ⊥ (λ there. listener.Answers there request calls step) → Heard listener octets calls step
  new-answered request None does = absurd does
  new-answered request (Some there) does = New_answered there request does

  inner-said : (Keeps : List PayloadValue → Kept → Type 0) (name : CounterName) (id : ℕ) (inner : Result (List PayloadValue) Bad) → TakesInner Keeps name id inner step → IsOther step
  inner-said Keeps name id (Ok payloads) takes = ap is_of_sync takes.2.says.said
  inner-said Keeps name id (Err bad) takes = absurd takes

  response-said : (response : Opened) (x : Option X) → MatchOption x ⊥ (λ there. TakesInner listener.Keeps (listener.asks there) response.header.id response.inner step)
      → IsOther step
  response-said response None does = absurd does
  response-said response (Some there) does = inner-said listener.Keeps (listener.asks there) response.header.id response.inner does

  arrival-heard : (comes : Arrival) → SyncOpens under octets comes → TakesArrival listener comes calls step → Heard listener octets calls step
  arrival-heard (arrival.Dropped reason) opens takes = Nothing_said (ap is_of_sync takes.1.said)
  arrival-heard (arrival.Resumption message) opens takes = Nothing_said (ap is_of_sync takes.1.said)
  arrival-heard (arrival.Repeat id datagram) opens takes = Nothing_said (ap is_of_sync takes.1.said)
  arrival-heard (arrival.New request) opens takes = new-answered request (held_for listener request) takes
  arrival-heard (arrival.Response response) opens takes = Nothing_said (response-said response (held_for listener response) takes.1)
  arrival-heard (arrival.Synchronisation request) opens takes =
      Request_heard (taken-there (λ there r. listener.Synchronises there r calls step) request opens (held_for listener request) refl takes)
  arrival-heard (arrival.SyncResponse response) opens takes =
      Response_heard (taken-there (λ there r. listener.TakesSync there r calls step) response opens (held_for listener response) refl takes)

  message-heard : TakesMessage listener octets calls step → Heard listener octets calls step
  message-heard takes = arrival-heard takes.comes (arrival-sync under octets takes.comes listener.end takes.is) takes.takes

-- what answers a new request says nothing of a synchronisation
request-said : (name : CounterName) (held : IkeHeld) (iv : ℕ) (request : Opened) (ticket : Option TicketAnswer) (step : Step) → AnswersRequest name held iv request ticket step → IsOther step
request-said name held iv request ticket step answers = go (error_of request) answers
  where
    go : (x : Option RequestError) → MatchOption x (ExecutesRequest name held iv request ticket step) (λ error. RefusesRequest name held iv request error step)
        → IsOther step
    go None executes = ap is_of_sync executes.said
    go (Some error) refuses = ap is_of_sync refuses.said

-- the peer accepted a request to synchronise that the octets open to
pub record AcceptedBy (slots : List Slot) (octets : List ℕ) (step : Step) : Type 0 where
  pub slot : Slot
  pub request : Opened
  pub found : first_slot (has_spis request.header.spii request.header.spir) slots ≡ Some slot
  pub opens : IsOpening (peer_keys slot.sa).receiving.octets octets (Ok request)
  pub payloads : List PayloadValue
  pub inner : request.inner ≡ Ok payloads
  pub asked : SyncRequest
  pub reads : IsRequest payloads asked
  pub accepted : Accepted
  pub is : IsPeerAnswer (sync_state slot) asked (Ok accepted)
  pub accepts : AcceptsSync slot request asked accepted step

module _ (slots : List Slot) (octets : List ℕ) (calls : List Call) (step : Step) where
  abbrev peers : Listener Slot
  peers = peer_listener slots

  slot-said : (slot : Slot) (request : Opened) → SlotAnswers slot request calls step → IsOther step
  slot-said slot request answers = ⊎_elim
      (λ below. request-said (peer_counter slot.sa counter.Answer) (slot_ike slot) slot.iv request None step (answers.within below))
      (λ ended. ap is_of_sync (answers.ended ended).said)
      (cases_lt slot.iv (end_of slot.sa counter.Iv))

  slot-heard : TakenThere peers octets (λ slot request. SlotSynchronises slot request calls step) → IsOther step ⊎ AcceptedBy slots octets step
  slot-heard taken = go taken.does.answer taken.does.is taken.does.answers
    where
      slot : Slot
      slot = taken.there

      asked : SyncRequest
      asked = taken.does.asked

      go : (answer : Result Accepted SyncDrop) → IsPeerAnswer (sync_state slot) asked answer → AnswersSync slot taken.message asked answer step
          → IsOther step ⊎ AcceptedBy slots octets step
      go (Ok accepted) is may = ⊎_elim
          (λ below. inr (record {
            slot = slot;
            request = taken.message;
            found = taken.found;
            opens = taken.opens;
            payloads = taken.does.payloads;
            inner = taken.does.inner;
            asked = asked;
            reads = taken.does.reads;
            accepted = accepted;
            is = is;
            accepts = may.within below;
          }))
          (λ ended. inl (ap is_of_sync (may.ended ended).said))
          (cases_lt slot.iv (end_of slot.sa counter.Iv))
      go (Err (why.NotAbove highest)) is says = inl (ap is_of_sync says.said)
      go (Err why.Delta) is says = inl (ap is_of_sync says.said)
      go (Err why.NotSync) is says = absurd says
      go (Err why.Nonce) is says = absurd says

  -- what the peer does with a message says nothing of a synchronisation, unless it accepts one
  pub peer-hears : TakesMessage peers octets calls step → IsOther step ⊎ AcceptedBy slots octets step
  peer-hears takes = go (message-heard peers octets calls step takes)
    where
      go : Heard peers octets calls step → IsOther step ⊎ AcceptedBy slots octets step
      go (Nothing_said other) = inl other
      go (New_answered slot request answers) = inl (slot-said slot request answers)
      go (Request_heard taken) = slot-heard taken
      go (Response_heard taken) = absurd taken.does

-- where numbers get ready first, it is said in what is done then
pub readies_then-said : (held : Held) (c : Counter) (at : ℕ) (step : Step) (goes : List Call → Type 0) → ((rest : List Call) → goes rest → IsOther step) → (calls : List Call)
    → ReadiesThen held c at calls step goes → IsOther step
readies_then-said held c at step goes said calls ready =
    ready-calls (λ calls. IsOther step) (reach_of held c) at Stopped
    (λ high rest. Ready (reach_of held counter.Iv) iv rest Stopped (λ high rest. goes rest))
    (λ call rest asked is. is)
    (λ reason rest s. ap is_of_sync s.1.said)
    (λ high rest more. ready-calls (λ calls. IsOther step) (reach_of held counter.Iv) iv Stopped (λ high rest. goes rest)
    (λ call rest asked is. is)
    (λ reason rest s. ap is_of_sync s.1.said)
    (λ high rest so. said rest so)
    rest more)
    calls ready
  where
    iv : ℕ
    iv = five_at held.nexts counter.Iv

    Stopped : Stop → List Call → Type 0
    Stopped reason rest = RefusesThen (refusal_of_stop reason) rest step

pub readies-said : (held : Held) (c : Counter) (at : ℕ) (step : Step) (done : Type 0) → (done → IsOther step) → (calls : List Call)
    → ReadiesWithIv held c at calls step done → IsOther step
readies-said held c at step done said calls ready = readies_then-said held c at step (λ rest. (rest ≡ []) × done) (λ rest d. said d.1) calls ready

-- a member took the response to its last request to synchronise, which the octets open to
pub record TakenBy (fresh : List ℕ) (held_of : ℕ → Option Held) (octets : List ℕ) (calls : List Call) (step : Step) : Type 0 where
  pub held : Held
  pub response : Opened
  pub found : of_spii response.header.spii (held_of response.header.spir) ≡ Some held
  pub opens : IsOpening (cluster_keys held.sa).receiving.octets octets (Ok response)
  pub no_calls : calls ≡ []
  pub attempt : ℕ
  pub awaited : awaits_sync held ≡ Some attempt
  pub payloads : List PayloadValue
  pub inner : response.inner ≡ Ok payloads
  pub counters : ℕ × ℕ
  pub is : IsMemberAnswer (five_at held.nexts counter.Ask) held.answered.floor (sync_nonce fresh attempt) payloads (Ok counters)
  pub says : Says (out.Synced (counter_name held.sa counter.Answer) counters.0 counters.1) step

module _ (m : MemberHeld) (within : HasLot m) (now : Moment) (octets : List ℕ) (calls : List Call) (step : Step) where
  abbrev fresh : List ℕ
  fresh = fresh_octets m.given

  abbrev held_of : ℕ → Option Held
  held_of = m.held

  abbrev members : Listener Held
  members = member_listener m now

  held-heard : TakenThere members octets (λ held response. HeldTakesSync fresh held response calls step)
      → IsOther step ⊎ TakenBy fresh held_of octets calls step
  held-heard taken = awaits (awaits_sync held) refl taken.does.1
    where
      held : Held
      held = taken.there

      go : (attempt : ℕ) → awaits_sync held ≡ Some attempt → (payloads : List PayloadValue) → taken.message.inner ≡ Ok payloads
          → (answer : Result (ℕ × ℕ) SyncDrop)
          → IsMemberAnswer (five_at held.nexts counter.Ask) held.answered.floor (sync_nonce fresh attempt) payloads answer → TakesSyncAnswer held answer step
          → IsOther step ⊎ TakenBy fresh held_of octets calls step
      go attempt e payloads inner (Ok counters) is says =
          inr (record {
            held = held;
            response = taken.message;
            found = taken.found;
            opens = taken.opens;
            no_calls = taken.does.0;
            attempt = attempt;
            awaited = e;
            payloads = payloads;
            inner = inner;
            counters = counters;
            is = is;
            says = says;
          })
      go attempt e payloads inner (Err why.Nonce) is says = inl (ap is_of_sync says.said)
      go attempt e payloads inner (Err (why.NotAbove highest)) is says = absurd says
      go attempt e payloads inner (Err why.Delta) is says = absurd says
      go attempt e payloads inner (Err why.NotSync) is says = absurd says

      awaits : (x : Option ℕ) → awaits_sync held ≡ x
          → MatchOption x (Says (out.DroppedIke drop.NotAsked) step) (λ id. TakesSyncOf fresh held id taken.message step)
          → IsOther step ⊎ TakenBy fresh held_of octets calls step
      awaits None e says = inl (ap is_of_sync says.said)
      awaits (Some attempt) e takes = go attempt e takes.payloads takes.inner takes.answer takes.is takes.takes

  held-said : (held : Held) (request : Opened) → HeldAnswers m now held request calls step → IsOther step
  held-said held request answers = readies_then-said held counter.Answer request.header.id step (λ rest. TellsTicket m now held.sa request rest step Answered)
      (λ rest tells. tells-calls m within now held.sa request step Answered (λ calls. IsOther step)
      (λ says. ap is_of_sync says.said)
      (λ ticket answered. request-said (counter_name held.sa counter.Answer) (held_ike held) (five_at held.nexts counter.Iv) request ticket step answered)
      (λ call lease is. is)
      rest tells)
      calls answers
    where
      Answered : Option TicketAnswer → Type 0
      Answered ticket = AnswersRequest (counter_name held.sa counter.Answer) (held_ike held) (five_at held.nexts counter.Iv) request ticket step

  -- and so it is of a member, unless it takes the response to one
  pub member-hears : TakesMessage members octets calls step → IsOther step ⊎ TakenBy fresh held_of octets calls step
  member-hears takes = go (message-heard members octets calls step takes)
    where
      go : Heard members octets calls step → IsOther step ⊎ TakenBy fresh held_of octets calls step
      go (Nothing_said other) = inl other
      go (New_answered held request answers) = inl (held-said held request answers)
      go (Request_heard taken) = absurd taken.does
      go (Response_heard taken) = held-heard taken
