-- What is answered to a synchronisation: each drop is the first check that fails (RFC 6311, section
-- 5).
use Rattle.std.specs.Prelude.{◌≡◌, ◌≢◌, ℕ, ◌≤◌, List, Option, None, Some, Result, Ok, Err}
use Rattle.ike_values.specs.Values.{PayloadValue}
use Rattle.sync_exchange.specs.Counters.{CanRise, CannotRise, IsAbove, accepted_counters, next_after, synced_ids}
use Rattle.sync_exchange.specs.Notifications.{IsRequest, ids_in}
use Rattle.sync_exchange.specs.declared.message_ids.MessageIds.{MessageIds}
use Rattle.sync_exchange.specs.declared.replay_counter.TheConstants.{DELTA_OCTETS}
use Rattle.sync_exchange.specs.declared.request.SyncRequest.{SyncRequest}
use Rattle.sync_exchange.specs.declared.peer.PeerState.{PeerState}
use Rattle.sync_exchange.specs.declared.peer.Accepted.{Accepted}
use Rattle.ha_base.specs.declared.limits.TheConstants.{SEQUENCE_END}
use Rattle.sync_exchange.specs.declared.sync_drop.SyncDrop.{SyncDrop}
use Rattle.sync_exchange.specs.declared.sync_drop.SyncDrop.TheVariants.{NotSync, NotAbove, Nonce, Delta}

-- what a message asks for, or that it is no synchronisation
abbrev pub IsRequestAnswer : List PayloadValue → Result SyncRequest SyncDrop → Type 0
IsRequestAnswer payloads (Ok request) = IsRequest payloads request
IsRequestAnswer payloads (Err NotSync) = ids_in payloads ≡ None
IsRequestAnswer payloads _ = ⊥

-- the peer's answer to a request
abbrev pub IsPeerAnswer : PeerState → SyncRequest → Result Accepted SyncDrop → Type 0
IsPeerAnswer state request (Ok counters) =
    IsAbove request.m1 state.highest × CanRise DELTA_OCTETS SEQUENCE_END state.next_esp request
    × (counters ≡ accepted_counters state request)
IsPeerAnswer state request (Err (NotAbove highest)) =
    (state.highest ≡ Some highest) × (request.m1 ≤ highest)
IsPeerAnswer state request (Err Delta) =
    IsAbove request.m1 state.highest × CannotRise DELTA_OCTETS SEQUENCE_END state.next_esp request
IsPeerAnswer state request _ = ⊥

-- what a member with these Message IDs makes of a response, where its last request had this nonce
abbrev pub IsMemberAnswer : ℕ → ℕ → ℕ → List PayloadValue → Result (ℕ × ℕ) SyncDrop → Type 0
IsMemberAnswer next floor nonce payloads (Ok counters) =
    (ids : MessageIds) × (ids_in payloads ≡ Some ids) × (ids.nonce ≡ nonce)
    × (counters ≡ synced_ids next floor ids)
IsMemberAnswer next floor nonce payloads (Err NotSync) = ids_in payloads ≡ None
IsMemberAnswer next floor nonce payloads (Err Nonce) =
    (ids : MessageIds) × (ids_in payloads ≡ Some ids) × (ids.nonce ≢ nonce)
IsMemberAnswer next floor nonce payloads _ = ⊥

-- the least Message ID above the highest, or that this one is not above it
abbrev pub IsLeastAnswer : Option ℕ → ℕ → Result ℕ SyncDrop → Type 0
IsLeastAnswer highest id (Ok least) = IsAbove id highest × (least ≡ next_after highest)
IsLeastAnswer highest id (Err (NotAbove used)) = (highest ≡ Some used) × (id ≤ used)
IsLeastAnswer highest id _ = ⊥
