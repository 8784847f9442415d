-- The messages of the exchange IKE_SESSION_RESUME, which are not sealed (RFC 5723, section 4.3).
use Rattle.std.specs.Prelude.{ℕ, ◌+◌, Bool, true, false, List, [], ◌∷◌, ◌++◌, length, Option, Some, None}
use Rattle.std.specs.Int.{w64, to_be_bytes}
use Rattle.ha_base.specs.declared.identities.GatewayId.{GatewayId}
use Rattle.ike_sas.specs.declared.exchanges.TheConstants.{IKE_SESSION_RESUME}
use Rattle.ike_values.specs.Notifications.{notify_of}
use Rattle.ike_values.specs.Spelling.{two}
use Rattle.ike_values.specs.Writing.{body_written}
use Rattle.ike_values.specs.Values.{PayloadValue, nonce}
use Rattle.ike_values.specs.declared.header.Header.{Header}
use Rattle.ike_values.specs.declared.header.Message.{Message}
use Rattle.ike_values.specs.declared.notify_types.TheConstants.{REDIRECT_SUPPORTED, REDIRECTED_FROM, TICKET_OPAQUE}

-- a payload before one of this type, or before none
abbrev pub payload_written : ℕ → PayloadValue → List ℕ
payload_written next item =
    next ∷ 0 ∷ two (4 + length (body_written item)) ++ body_written item

-- a nonce of a resumption: fresh octets, and a number that is drawn once
abbrev pub numbered_nonce : List ℕ → ℕ → List ℕ
numbered_nonce fresh number = fresh ++ to_be_bytes w64 number

-- the data that name a gateway, with a nonce behind (RFC 5685, section 9.2)
abbrev pub gateway_data : GatewayId → List ℕ → List ℕ
gateway_data gateway behind =
    gateway.kind ∷ length gateway.octets ∷ gateway.octets ++ behind

-- the peer's messages have the Initiator flag, and the member's the Response flag
abbrev pub resume_header : ℕ → Header
resume_header spii = record {
  spii = spii;
  spir = 0;
  exchange = IKE_SESSION_RESUME;
  initiator = true;
  response = false;
  id = 0;
}

abbrev pub answer_header : ℕ → ℕ → Header
answer_header spii spir = record {
  spii = spii;
  spir = spir;
  exchange = IKE_SESSION_RESUME;
  initiator = false;
  response = true;
  id = 0;
}

-- the gateway that redirected the peer, or that it follows redirects (RFC 5685, section 3)
abbrev pub redirect_word : Option GatewayId → PayloadValue
redirect_word None = notify_of REDIRECT_SUPPORTED []
redirect_word (Some left) = notify_of REDIRECTED_FROM (gateway_data left [])

-- the peer's request: its nonce, its ticket, and where it comes from
abbrev pub resume_request : ℕ → List ℕ → List ℕ → Option GatewayId → Message
resume_request spii ni ticket left = record {
  header = resume_header spii;
  payloads = nonce ni ∷ notify_of TICKET_OPAQUE ticket ∷ redirect_word left ∷ [];
}

-- the member's answer, which has one payload
abbrev pub resume_answer : ℕ → ℕ → PayloadValue → Message
resume_answer spii spir item = record { header = answer_header spii spir; payloads = item ∷ [] }
