-- The Message IDs and sequence numbers that a synchronisation leaves (RFC 6311, section 5).
use Rattle.std.specs.Prelude.{◌≡◌, ◌≢◌, ℕ, ◌+◌, ◌<◌, ◌≤◌, ◌⊎◌, ◌==◌, max, Option, None, Some, IfSome, if◌then◌else◌}
use Rattle.sync_exchange.specs.declared.message_ids.MessageIds.{MessageIds}
use Rattle.sync_exchange.specs.declared.replay_counter.TheConstants.{DELTA_OCTETS}
use Rattle.sync_exchange.specs.declared.request.SyncRequest.{SyncRequest}
use Rattle.sync_exchange.specs.declared.peer.PeerState.{PeerState}
use Rattle.sync_exchange.specs.declared.peer.Accepted.{Accepted}

-- a Message ID is above the highest that the cluster used; where it used none, each is (section
-- 5.1)
abbrev pub IsAbove : ℕ → Option ℕ → Type 0
IsAbove id highest = IfSome highest (λ used. used < id)

-- one above the highest, and 0 where there is none
abbrev pub next_after : Option ℕ → ℕ
next_after None = 0
next_after (Some highest) = highest + 1

-- by how much the sequence number is to rise: by the delta, where its notification has the size of
-- a delta
abbrev pub rise_of : ℕ → SyncRequest → ℕ
rise_of size request = if request.size == size then request.delta else 0

-- the delta has the octets that it is to have or is left out (section 6.4), and the sequence number
-- stays within its end
pub record CanRise (size end next_esp : ℕ) (request : SyncRequest) : Type 0 where
  pub octets : (request.size ≡ 0) ⊎ (request.size ≡ size)
  pub within : next_esp + rise_of size request ≤ end

abbrev pub CannotRise : ℕ → ℕ → ℕ → SyncRequest → Type 0
CannotRise size end next_esp request =
    ((request.size ≢ 0) × (request.size ≢ size)) ⊎ (end < next_esp + rise_of size request)

-- what the peer takes on: P2 is the greater of P1 and its own next Message ID, M2 the greater of M1
-- and one above the highest (section 5.1), and its sequence number rises by the delta (section 5.2)
abbrev pub accepted_counters : PeerState → SyncRequest → Accepted
accepted_counters state request = record {
  p2 = max request.p1 state.next_ask;
  m2 = max request.m1 (next_after state.highest);
  next_esp = state.next_esp + rise_of DELTA_OCTETS request;
}

-- what the member takes on: the greater of its own next Message ID and the one that the peer
-- expects, and the greater of the one that it expects itself and the peer's next (section 5.1)
abbrev pub synced_ids : ℕ → ℕ → MessageIds → ℕ × ℕ
synced_ids next floor ids = (max next ids.receive, max floor ids.send)
