-- What the peer does with IKE messages.
use Rattle.std.specs.Prelude.{ℕ, ◌≡◌, ◌<◌, ◌≤◌, ◌==◌, ◌&&◌, ◌⊎◌, MatchOption, Bool, true, false, List, [], Some, None, Result, Ok, Err}
use Rattle.events.specs.declared.turn.Step.{Step}
use Rattle.events.specs.declared.ike_outcomes.IkeDrop.TheVariants as drop
use Rattle.events.specs.declared.ike_outcomes.Kept.{Kept}
use Rattle.events.specs.declared.ike_outcomes.Kept.TheVariants as kept
use Rattle.events.specs.declared.verdict.Refusal.TheVariants as refusal
use Rattle.events.specs.declared.verdict.Verdict.TheVariants as out
use Rattle.ha_base.specs.declared.counter_names.End.TheVariants as end
use Rattle.ike_sas.specs.Held.{IkeHeld, response_header}
use Rattle.ike_sas.specs.TicketMessages.{declines_ticket, ticket_in}
use Rattle.ike_sas.specs.declared.keys.IkeKeys.{IkeKeys}
use Rattle.ike_values.specs.Values.{PayloadValue}
use Rattle.ike_window.specs.Kept.{message_ids_of}
use Rattle.keeper_book.specs.CounterEnds.{end_of}
use Rattle.keeper_book.specs.declared.calls.Call.{Call}
use Rattle.keeper_book.specs.declared.counters.Counter.TheVariants as counter
use Rattle.keeper_book.specs.declared.records.Record.{Record}
use Rattle.sk_payload.specs.declared.open.Opened.{Opened}
use Rattle.sync_exchange.specs.Answers.{IsPeerAnswer}
use Rattle.sync_exchange.specs.Counters.{rise_of}
use Rattle.sync_exchange.specs.Laws.{response_ids, response_of}
use Rattle.sync_exchange.specs.Notifications.{IsRequest}
use Rattle.sync_exchange.specs.declared.peer.Accepted.{Accepted}
use Rattle.sync_exchange.specs.declared.peer.PeerState.{PeerState}
use Rattle.sync_exchange.specs.declared.replay_counter.TheConstants.{DELTA_OCTETS}
use Rattle.sync_exchange.specs.declared.request.SyncRequest.{SyncRequest}
use Rattle.sync_exchange.specs.declared.sync_drop.SyncDrop.{SyncDrop}
use Rattle.sync_exchange.specs.declared.sync_drop.SyncDrop.TheVariants as why
use Rattle.turn_rules.specs.Draws.{counter_name}
use Rattle.turn_rules.specs.Messages.{AnswersRequest, Listener, Resends, SendsMessage, SendsRequest, Windowed}
use Rattle.turn_rules.specs.Slots.{Slot, first_slot, has_spir, peer_counter}
use Rattle.turn_rules.specs.Steps.{Says}

-- the peer seals with SK_ei, and opens what the cluster sealed with SK_er (RFC 7296, section 2.14)
abbrev pub peer_keys : Record → IkeKeys
peer_keys sa = record {
  end = end.Peer;
  spii = sa.spii;
  spir = sa.spir;
  sending = record { name = peer_counter sa counter.Iv; octets = sa.keys.sk_ei };
  receiving = record { name = counter_name sa counter.Iv; octets = sa.keys.sk_er };
}

-- what a slot holds of IKE messages: the peer may answer from the beginning
abbrev pub slot_ike : Slot → IkeHeld
slot_ike slot = record {
  keys = peer_keys slot.sa;
  asked = slot.asked;
  next = slot.ask;
  answered = slot.answered;
  synced = true;
}

-- a live association with these SPIs
abbrev pub has_spis : ℕ → ℕ → Slot → Bool
has_spis spii spir slot = (slot.sa.spii == spii) && has_spir spir slot

-- a new request is answered under the next IV, unless no IV is left
pub record SlotAnswers (slot : Slot) (request : Opened) (calls : List Call)
    (step : Step) : Type 0 where
  pub no_calls : calls ≡ []
  pub within : slot.iv < end_of slot.sa counter.Iv
      → AnswersRequest (peer_counter slot.sa counter.Answer) (slot_ike slot) slot.iv request None step
  pub ended : end_of slot.sa counter.Iv ≤ slot.iv → Says (out.Refused refusal.Exhausted) step

-- what a slot holds that a synchronisation asks for
abbrev pub sync_state : Slot → PeerState
sync_state slot = record { highest = slot.highest; next_ask = slot.ask; next_esp = slot.next }

-- A synchronisation is accepted: the counters are told as they are then, the requests that were
-- outstanding with them, and the response under an IV has the nonce of the request.
pub record AcceptsSync (slot : Slot) (request : Opened) (asked : SyncRequest) (accepted : Accepted)
    (step : Step) : Type 0 where
  pub said : step.verdict ≡ out.SyncAccepted (peer_counter slot.sa counter.Answer) accepted.p2
      accepted.m2 (rise_of DELTA_OCTETS asked) (message_ids_of slot.asked)
  pub served : step.served ≡ None
  pub responds : SendsMessage (slot_ike slot) slot.iv
      (response_header (peer_keys slot.sa) request.header)
      (response_of (response_ids asked accepted)) step

-- unless no IV is left
pub record MayAcceptSync (slot : Slot) (request : Opened) (asked : SyncRequest)
    (accepted : Accepted) (step : Step) : Type 0 where
  pub within : slot.iv < end_of slot.sa counter.Iv → AcceptsSync slot request asked accepted step
  pub ended : end_of slot.sa counter.Iv ≤ slot.iv → Says (out.Refused refusal.Exhausted) step

-- by what its counters say to it (RFC 6311, section 5)
abbrev pub AnswersSync : Slot → Opened → SyncRequest → Result Accepted SyncDrop → Step → Type 0
AnswersSync slot request asked (Ok accepted) step = MayAcceptSync slot request asked accepted step
AnswersSync slot request asked (Err (why.NotAbove highest)) step =
    Says (out.DroppedIke (drop.SyncOld highest)) step
AnswersSync slot request asked (Err why.Delta) step = Says (out.DroppedIke drop.Delta) step
AnswersSync slot request asked (Err other) step = ⊥

-- what a slot does with a request to synchronise
pub record SlotSynchronises (slot : Slot) (request : Opened) (calls : List Call)
    (step : Step) : Type 0 where
  pub no_calls : calls ≡ []
  pub payloads : List PayloadValue
  pub inner : request.inner ≡ Ok payloads
  pub asked : SyncRequest
  pub reads : IsRequest payloads asked
  pub answer : Result Accepted SyncDrop
  pub is : IsPeerAnswer (sync_state slot) asked answer
  pub answers : AnswersSync slot request asked answer step

-- the peer asks for no synchronisation, so no response to one is taken
abbrev pub SlotTakesSync : Slot → Opened → List Call → Step → Type 0
SlotTakesSync slot response calls step = ⊥

-- The peer keeps the first ticket of a response, or sees that there is none (RFC 5723, section 4.1).
abbrev pub KeepsTicket : List PayloadValue → Kept → Type 0
KeepsTicket payloads kept.Plain = (ticket_in payloads ≡ None) × (declines_ticket payloads ≡ false)
KeepsTicket payloads (kept.Ticket lifetime ticket) =
    ticket_in payloads ≡ Some (record { lifetime = lifetime; octets = ticket.octets })
KeepsTicket payloads kept.Nack = (ticket_in payloads ≡ None) × (declines_ticket payloads ≡ true)

abbrev pub peer_listener : List Slot → Listener Slot
peer_listener slots = record {
  end = end.Peer;
  held_under = λ spii spir. first_slot (has_spis spii spir) slots;
  ike = slot_ike;
  asks = λ slot. peer_counter slot.sa counter.Ask;
  Keeps = KeepsTicket;
  Answers = SlotAnswers;
  Synchronises = SlotSynchronises;
  TakesSync = SlotTakesSync;
}

-- a request is sent under the next Message ID and the next IV, unless one of them is not left
pub record SlotSendsRequest (slot : Slot) (payloads : List PayloadValue)
    (step : Step) : Type 0 where
  pub within :
      slot.ask < end_of slot.sa counter.Ask → slot.iv < end_of slot.sa counter.Iv
      → SendsRequest (slot_ike slot) slot.ask slot.iv payloads step
  pub ended :
      (end_of slot.sa counter.Ask ≤ slot.ask) ⊎ (end_of slot.sa counter.Iv ≤ slot.iv)
      → Says (out.Refused refusal.Exhausted) step

abbrev pub SlotAsks : Slot → List PayloadValue → Step → Type 0
SlotAsks slot payloads step = Windowed (slot_ike slot) slot.ask
    (λ least. Says (out.Refused (refusal.WindowFull least)) step)
    (SlotSendsRequest slot payloads step)

-- the peer sends a request with these inner payloads in a live association
abbrev pub PeerAsks : ℕ → List Slot → List PayloadValue → Step → Type 0
PeerAsks spir slots payloads step = MatchOption (first_slot (has_spir spir) slots)
    (Says (out.Refused refusal.Unknown) step)
    (λ slot. SlotAsks slot payloads step)

-- and sends a request again
abbrev pub PeerResends : ℕ → List Slot → ℕ → Step → Type 0
PeerResends spir slots id step = MatchOption (first_slot (has_spir spir) slots)
    (Says (out.Refused refusal.Unknown) step)
    (λ slot. Resends id (slot_ike slot) step)
