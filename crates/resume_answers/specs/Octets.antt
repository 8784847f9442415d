-- What a member answers to a request to resume, octet for octet. Each answer has one payload, the
-- initiator's SPI of the request and the Message ID 0 (RFC 5723, section 4.3.2).
use Rattle.std.specs.Prelude.{ℕ, List, []}
use Rattle.ha_base.specs.declared.identities.GatewayId.{GatewayId}
use Rattle.ike_encoding.specs.Messages.{message_written}
use Rattle.ike_values.specs.Notifications.{notify_of}
use Rattle.ike_values.specs.Values.{nonce}
use Rattle.ike_values.specs.declared.notify_types.TheConstants.{REDIRECT, TICKET_NACK}
use Rattle.resume_exchange.specs.FirstMessages.{gateway_data, resume_answer}

-- the ticket is taken: the responder's SPI and its nonce
abbrev pub nonce_answer : ℕ → ℕ → List ℕ → List ℕ
nonce_answer spii spir nr = message_written (resume_answer spii spir (nonce nr))

-- the ticket is not taken, and there is no responder's SPI
abbrev pub nack_answer : ℕ → List ℕ
nack_answer spii = message_written (resume_answer spii 0 (notify_of TICKET_NACK []))

-- the gateway that the peer is to go to, and the nonce of its request (RFC 5685, section 3)
abbrev pub redirect_answer : ℕ → GatewayId → List ℕ → List ℕ
redirect_answer spii gateway ni =
    message_written (resume_answer spii 0 (notify_of REDIRECT (gateway_data gateway ni)))
