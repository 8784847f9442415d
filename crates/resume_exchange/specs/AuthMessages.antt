-- The messages of the exchange IKE_AUTH that follows (RFC 5723, section 4.3.3), and the association
-- that it makes.
use Rattle.std.specs.Prelude.{ℕ, ◌+◌, Bool, true, false, List, [], ◌∷◌}
use Rattle.std.specs.Int.{w32, to_be_bytes}
use Rattle.ha_base.specs.declared.counter_names.Derivation.{Derivation}
use Rattle.ha_base.specs.declared.counter_names.End.{End}
use Rattle.ha_base.specs.declared.counter_names.End.TheVariants.{Cluster, Peer}
use Rattle.ha_base.specs.declared.identities.Identity.{Identity}
use Rattle.ha_base.specs.declared.key_material.KeySize.{KeySize}
use Rattle.ike_sas.specs.declared.exchanges.TheConstants.{IKE_AUTH}
use Rattle.ike_values.specs.Notifications.{notify_of}
use Rattle.ike_values.specs.Values.{PayloadValue, ProposalValue, SelectorValue, TransformValue}
use Rattle.ike_values.specs.Values.{auth, fixed, idi, idr, sa, tsi, tsr}
use Rattle.ike_values.specs.declared.header.Header.{Header}
use Rattle.ike_values.specs.declared.notify_types.TheConstants.{SET_WINDOW_SIZE}
use Rattle.ike_values.specs.declared.selector.TheConstants.{IPV4_RANGE}
use Rattle.resume_exchange.specs.Offers.{key_bits}
use Rattle.resume_exchange.specs.declared.auth_messages.TheConstants.{REQUEST_WINDOW}
use Rattle.resume_exchange.specs.declared.offers.TheConstants.{AES_GCM_16, ENCR, ESN, ESP, EXTENDED, KEY_LENGTH}
use Rattle.resume_exchange.specs.declared.parts.TheConstants.{SHARED_KEY}

-- the header: both messages have the Message ID 1, and the peer's the Initiator flag
abbrev pub auth_header : End → Derivation → Header
auth_header Peer from = record {
  spii = from.spii;
  spir = from.spir;
  exchange = IKE_AUTH;
  initiator = true;
  response = false;
  id = 1;
}
auth_header Cluster from = record {
  spii = from.spii;
  spir = from.spir;
  exchange = IKE_AUTH;
  initiator = false;
  response = true;
  id = 1;
}

-- the identity of an end: the peer is the initiator
abbrev pub identity_payload : End → Identity → PayloadValue
identity_payload Peer x = idi (record { kind = x.kind; content = x.octets })
identity_payload Cluster x = idr (record { kind = x.kind; content = x.octets })

-- AES-GCM with a key of this size, and extended sequence numbers
abbrev pub offered_transforms : KeySize → List TransformValue
offered_transforms size =
    record { kind = ENCR; id = AES_GCM_16; attributes = fixed KEY_LENGTH (key_bits size) ∷ [] }
    ∷ record { kind = ESN; id = EXTENDED; attributes = [] } ∷ []

-- the one proposal of an end: for ESP, with the SPI at which the end receives
abbrev pub offered : ℕ → ℕ → KeySize → ProposalValue
offered number spi size = record {
  number = number;
  protocol = ESP;
  spi = to_be_bytes w32 spi;
  transforms = offered_transforms size;
}

-- all addresses of IPv4, with all ports and protocols (RFC 7296, section 3.13.1)
abbrev pub all_addresses : SelectorValue
all_addresses = record {
  kind = IPV4_RANGE;
  protocol = 0;
  start_port = 0;
  end_port = 65535;
  start = 0 ∷ 0 ∷ 0 ∷ 0 ∷ [];
  end = 255 ∷ 255 ∷ 255 ∷ 255 ∷ [];
}

-- what an end says in IKE_AUTH (RFC 7296, section 1.2), and how many requests may be outstanding
abbrev pub auth_payloads :
    PayloadValue → List ℕ → ProposalValue → SelectorValue → SelectorValue → List PayloadValue
auth_payloads identity code proposal initiator responder =
    identity ∷ auth (record { method = SHARED_KEY; content = code }) ∷ sa (proposal ∷ [])
    ∷ tsi (initiator ∷ []) ∷ tsr (responder ∷ [])
    ∷ notify_of SET_WINDOW_SIZE (to_be_bytes w32 REQUEST_WINDOW) ∷ []
