-- What holds after a synchronisation.
use Rattle.std.specs.Prelude.{◌≡◌, ℕ, ◌^◌, ◌<◌, ◌≤◌, List, [], ◌∷◌, Result, Ok, Err, Some}
use Rattle.std.specs.Int.{w64, to_be_bytes}
use Rattle.ike_values.specs.Values.{PayloadValue}
use Rattle.ike_values.specs.Notifications.{notify_of}
use Rattle.ike_values.specs.declared.notify_types.TheConstants.{IKEV2_MESSAGE_ID_SYNC, IPSEC_REPLAY_COUNTER_SYNC}
use Rattle.sync_exchange.specs.Answers.{IsPeerAnswer}
use Rattle.sync_exchange.specs.Counters.{IsAbove, synced_ids}
use Rattle.sync_exchange.specs.Notifications.{IsRequest, ids_in, message_ids_spelling}
use Rattle.sync_exchange.specs.declared.message_ids.MessageIds.{MessageIds}
use Rattle.sync_exchange.specs.declared.replay_counter.TheConstants.{DELTA_OCTETS}
use Rattle.sync_exchange.specs.declared.request.SyncRequest.{SyncRequest}
use Rattle.sync_exchange.specs.declared.peer.PeerState.{PeerState}
use Rattle.sync_exchange.specs.declared.peer.Accepted.{Accepted}
use Rattle.sync_exchange.specs.declared.sync_drop.SyncDrop.{SyncDrop}
use Rattle.sync_exchange.specs.declared.sync_drop.SyncDrop.TheVariants.{NotAbove}

-- a peer answers a request in one way only
abbrev pub AnswersAreUnique : Type 0
AnswersAreUnique =
    (state : PeerState) (request : SyncRequest) (answer other : Result Accepted SyncDrop) →
    IsPeerAnswer state request answer → IsPeerAnswer state request other → answer ≡ other

-- each counter of the peer stays or rises, and no Message ID that it expects was used
pub record NoneFalls (state : PeerState) (request : SyncRequest)
    (counters : Accepted) : Type 0 where
  pub next_ask : state.next_ask ≤ counters.p2
  pub expected : request.p1 ≤ counters.p2
  pub unused : IsAbove counters.m2 state.highest
  pub announced : request.m1 ≤ counters.m2
  pub next_esp : state.next_esp ≤ counters.next_esp

abbrev pub CountersNeverFall : Type 0
CountersNeverFall =
    (state : PeerState) (request : SyncRequest) (counters : Accepted) →
    IsPeerAnswer state request (Ok counters) → NoneFalls state request counters

-- the peer after it accepted a request
abbrev pub peer_state_after : SyncRequest → Accepted → PeerState
peer_state_after request counters = record {
  highest = Some request.m1;
  next_ask = counters.p2;
  next_esp = counters.next_esp;
}

-- a request that is repeated is not accepted again, so that its delta counts once (RFC 6311,
-- section 5.1)
abbrev pub RequestsAreAcceptedOnce : Type 0
RequestsAreAcceptedOnce =
    (state : PeerState) (request : SyncRequest) (counters : Accepted)
    (answer : Result Accepted SyncDrop) →
    IsPeerAnswer state request (Ok counters) → IsPeerAnswer
    (peer_state_after request counters) request answer →
    answer ≡ Err (NotAbove request.m1)

-- what the peer announces in its response
abbrev pub response_ids : SyncRequest → Accepted → MessageIds
response_ids request counters = record {
  nonce = request.nonce;
  send = counters.p2;
  receive = counters.m2;
}

-- a member that announced no less than its own Message IDs then has those of the peer
abbrev pub BothEndsAgree : Type 0
BothEndsAgree =
    (state : PeerState) (request : SyncRequest) (counters : Accepted) (next floor : ℕ) →
    IsPeerAnswer state request (Ok counters) → next ≤ request.m1 → floor ≤ request.p1 →
    synced_ids next floor (response_ids request counters) ≡ (counters.m2, counters.p2)

-- the ranges of a Message ID synchronisation's fields
pub record AreInRange (ids : MessageIds) : Type 0 where
  pub nonce : ids.nonce < 2 ^ 32
  pub send : ids.send < 2 ^ 32
  pub receive : ids.receive < 2 ^ 32

-- the notification that a peer answers with
abbrev pub response_of : MessageIds → List PayloadValue
response_of ids = notify_of IKEV2_MESSAGE_ID_SYNC (message_ids_spelling ids) ∷ []

-- the two notifications of a request to synchronise
abbrev pub request_with : MessageIds → ℕ → List PayloadValue
request_with ids delta =
    notify_of IKEV2_MESSAGE_ID_SYNC (message_ids_spelling ids)
    ∷ notify_of IPSEC_REPLAY_COUNTER_SYNC (to_be_bytes w64 delta) ∷ []

abbrev pub WrittenResponsesAreRead : Type 0
WrittenResponsesAreRead = (ids : MessageIds) → AreInRange ids → ids_in (response_of ids) ≡ Some ids

abbrev pub WrittenRequestsAreRead : Type 0
WrittenRequestsAreRead =
    (ids : MessageIds) (delta : ℕ) → AreInRange ids → delta < 2 ^ 64 →
    IsRequest (request_with ids delta) (record {
      nonce = ids.nonce;
      m1 = ids.send;
      p1 = ids.receive;
      size = DELTA_OCTETS;
      delta = delta;
    })
