-- What the two synchronisation notifications of a message say (RFC 6311, section 6). Of each type
-- the first counts.
use Rattle.std.specs.Prelude.{◌≡◌, ℕ, ◌-◌, ◌^◌, ◌==◌, min, List, [], ◌++◌, length, take, drop, Option, None, Some, unwrap_or, if◌then◌else◌}
use Rattle.std.specs.Int.{w32, w64, to_be_bytes, from_be_bytes}
use Rattle.ike_values.specs.Values.{PayloadValue}
use Rattle.ike_values.specs.Notifications.{first_notify}
use Rattle.ike_values.specs.declared.notify_types.TheConstants.{IKEV2_MESSAGE_ID_SYNC, IPSEC_REPLAY_COUNTER_SYNC}
use Rattle.sync_exchange.specs.declared.message_ids.MessageIds.{MessageIds}
use Rattle.sync_exchange.specs.declared.message_ids.TheConstants.{MESSAGE_IDS_OCTETS}
use Rattle.sync_exchange.specs.declared.replay_counter.TheConstants.{DELTA_OCTETS}
use Rattle.sync_exchange.specs.declared.request.SyncRequest.{SyncRequest}

-- the data of IKEV2_MESSAGE_ID_SYNC (section 6.3): a nonce, the Message ID of the sender's next
-- request, and that of the next request that it expects, each in four octets
abbrev pub message_ids_spelling : MessageIds → List ℕ
message_ids_spelling ids = to_be_bytes w32 ids.nonce ++ to_be_bytes w32 ids.send
    ++ to_be_bytes w32 ids.receive

-- what twelve octets say
abbrev pub ids_of : List ℕ → MessageIds
ids_of octets = record {
  nonce = from_be_bytes w32 (take 4 octets);
  send = from_be_bytes w32 (take 4 (drop 4 octets));
  receive = from_be_bytes w32 (take 4 (drop 8 octets));
}

abbrev pub ids_if_whole : Option (List ℕ) → Option MessageIds
ids_if_whole None = None
ids_if_whole (Some octets) = if length octets == MESSAGE_IDS_OCTETS then Some (ids_of octets)
    else None

-- what the first of them says, where it has twelve octets
abbrev pub ids_in : List PayloadValue → Option MessageIds
ids_in payloads = ids_if_whole (first_notify IKEV2_MESSAGE_ID_SYNC payloads)

-- the data of the first IPSEC_REPLAY_COUNTER_SYNC (section 6.4), where an empty one is as good as
-- none
abbrev pub replay_in : List PayloadValue → List ℕ
replay_in payloads = unwrap_or (first_notify IPSEC_REPLAY_COUNTER_SYNC payloads) []

-- how many octets it has, as far as 32 bits can tell
abbrev pub size_in : List ℕ → ℕ
size_in octets = min (length octets) (2 ^ 32 - 1)

-- with extended sequence numbers the delta is a number in eight octets
abbrev pub delta_in : List ℕ → ℕ
delta_in octets = if length octets == DELTA_OCTETS then from_be_bytes w64 octets else 0

-- the payloads ask for this synchronisation
pub record IsRequest (payloads : List PayloadValue) (request : SyncRequest) : Type 0 where
  pub ids : ids_in payloads ≡ Some (record {
    nonce = request.nonce;
    send = request.m1;
    receive = request.p1;
  })
  pub size : request.size ≡ size_in (replay_in payloads)
  pub delta : request.delta ≡ delta_in (replay_in payloads)
