-- What an end holds of the IKE messages of an association (RFC 7296, sections 2.1 to 2.3).
use Rattle.std.specs.Prelude.{ℕ, ◌+◌, ◌==◌, not, Bool, true, false, List, [], ◌∷◌, ◌++◌, filter}
use Rattle.ha_base.specs.declared.counter_names.End.{End}
use Rattle.ha_base.specs.declared.counter_names.End.TheVariants.{Cluster, Peer}
use Rattle.ike_sas.specs.declared.exchanges.TheConstants.{INFORMATIONAL}
use Rattle.ike_sas.specs.declared.keys.IkeKeys.{IkeKeys}
use Rattle.ike_values.specs.declared.header.Header.{Header}
use Rattle.ike_window.specs.Kept.{KeptMessage}
use Rattle.ike_window.specs.Stored.{raised_to, with_response}
use Rattle.ike_window.specs.Windows.{ResponseWindow}

-- the keys; the requests that are outstanding, in ascending order of Message ID; the least Message
-- ID that an own request may have; what was answered; and whether requests may be answered, which a
-- member that took over has to synchronise for first
pub record IkeHeld : Type 0 where
  pub keys : IkeKeys
  pub asked : List KeptMessage
  pub next : ℕ
  pub answered : ResponseWindow
  pub synced : Bool

-- the peer is the initiator
abbrev pub is_initiator : End → Bool
is_initiator Cluster = false
is_initiator Peer = true

-- the header of a request of this end. All its requests are INFORMATIONAL
abbrev pub request_header : IkeKeys → ℕ → Header
request_header keys id = record {
  spii = keys.spii;
  spir = keys.spir;
  exchange = INFORMATIONAL;
  initiator = is_initiator keys.end;
  response = false;
  id = id;
}

-- the header of a response of this end: exchange type and Message ID are those of the request (RFC
-- 7296, section 2.2)
abbrev pub response_header : IkeKeys → Header → Header
response_header keys request = record {
  spii = keys.spii;
  spir = keys.spir;
  exchange = request.exchange;
  initiator = is_initiator keys.end;
  response = true;
  id = request.id;
}

-- a request was sent: it is outstanding, and the next one has a greater Message ID
abbrev pub with_asked : ℕ → List ℕ → IkeHeld → IkeHeld
with_asked id octets held = record held {
  asked = held.asked ++ record { id = id; octets = octets } ∷ [];
  next = id + 1;
}

-- the request of this Message ID is no longer outstanding
abbrev pub without_asked : ℕ → IkeHeld → IkeHeld
without_asked id held = record held {
  asked = filter (λ message. not (message.id == id)) held.asked;
}

-- a response was stored under the Message ID of its request
abbrev pub with_answered : ℕ → List ℕ → IkeHeld → IkeHeld
with_answered id octets held = record held {
  answered = with_response (record { id = id; octets = octets }) held.answered;
}

-- a member asked to synchronise, with this as the Message ID of its next request (RFC 6311, section
-- 5.1): those below are given up
abbrev pub with_sync_begun : ℕ → IkeHeld → IkeHeld
with_sync_begun m1 held = record held { next = m1 }

-- the peer accepted a synchronisation: none of its requests is outstanding, its next one has the
-- first of these Message IDs, and requests below the second are given up
abbrev pub with_sync_accepted : ℕ → ℕ → IkeHeld → IkeHeld
with_sync_accepted p2 m2 held = record held {
  asked = [];
  next = p2;
  answered = raised_to m2 held.answered;
}

-- a member is synchronised: its next request has the first of these Message IDs, and requests below
-- the second are given up
abbrev pub with_synced : ℕ → ℕ → IkeHeld → IkeHeld
with_synced next floor held = record held {
  next = next;
  answered = raised_to floor held.answered;
  synced = true;
}
