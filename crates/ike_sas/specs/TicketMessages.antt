-- What the messages of an association say of tickets (RFC 5723, sections 4.1, 4.2 and 7).
use Rattle.std.specs.Prelude.{◌≡◌, ℕ, ◌+◌, ◌≤◌, ◌==◌, ◌&&◌, nat_le, Bool, true, false, List, [], ◌∷◌, ◌++◌, length, take, drop, slice_get, Option, Some, None, is_none, is_some, Result, Ok, Err, if◌then◌else◌}
use Rattle.std.specs.Int.{w32, from_be_bytes, to_be_bytes}
use Rattle.std.specs.List.{filter_map}
use Rattle.std.specs.Option.{option_map}
use Rattle.events.specs.declared.seals.Seal.{Seal}
use Rattle.ike_sas.specs.Answers.{answer_payloads, error_of}
use Rattle.ike_sas.specs.declared.ticket_messages.GivenTicket.{GivenTicket}
use Rattle.ike_sas.specs.declared.ticket_messages.TheConstants.{LIFETIME_OCTETS, LONGEST_KEPT_TICKET}
use Rattle.ike_sas.specs.declared.ticket_messages.TicketAnswer.{TicketAnswer}
use Rattle.ike_sas.specs.declared.ticket_messages.TicketAnswer.TheVariants.{Declined, Issued}
use Rattle.ike_sas.specs.declared.ticket_messages.TicketReply.{TicketReply}
use Rattle.ike_sas.specs.declared.ticket_messages.TicketReply.TheVariants as reply
use Rattle.ike_values.specs.Notifications.{first_notify, notify_of}
use Rattle.ike_values.specs.Values.{PayloadValue, notify}
use Rattle.ike_values.specs.declared.fault.Bad.{Bad}
use Rattle.ike_values.specs.declared.notify_types.TheConstants.{TICKET_LT_OPAQUE, TICKET_NACK, TICKET_REQUEST}
use Rattle.sk_payload.specs.declared.open.Opened.{Opened}

-- ---- requests

-- what asks for a ticket
abbrev pub ticket_request_payloads : List PayloadValue
ticket_request_payloads = notify_of TICKET_REQUEST [] ∷ []

-- a ticket is asked for by any notification of that type, whatever its data
abbrev pub asks_ticket : List PayloadValue → Bool
asks_ticket payloads = is_some (first_notify TICKET_REQUEST payloads)

abbrev pub asks_ticket_inside : Result (List PayloadValue) Bad → Bool
asks_ticket_inside (Ok payloads) = asks_ticket payloads
asks_ticket_inside (Err bad) = false

-- the request is one that is executed, and it asks for a ticket
abbrev pub is_ticket_due : Opened → Bool
is_ticket_due request = is_none (error_of request) && asks_ticket_inside request.inner

-- ---- answers

-- a ticket, and before it for how many seconds it is taken (section 7.1)
abbrev pub ticket_payload : ℕ → List ℕ → PayloadValue
ticket_payload lifetime ticket = notify_of TICKET_LT_OPAQUE (to_be_bytes w32 lifetime ++ ticket)

-- no ticket is given
abbrev pub nack_payload : PayloadValue
nack_payload = notify_of TICKET_NACK []

abbrev pub ticket_answer_payload : TicketAnswer → PayloadValue
ticket_answer_payload (Issued lifetime seal) = ticket_payload lifetime seal.sealed.octets
ticket_answer_payload Declined = nack_payload

-- the inner payloads of the answer to a request for a ticket: what is said of the ticket comes
-- behind the reply of the service that executed the request
abbrev pub payloads_with_ticket : Opened → List ℕ → TicketAnswer → List PayloadValue
payloads_with_ticket request told answer =
    answer_payloads request told ++ ticket_answer_payload answer ∷ []

-- what was sealed for it
abbrev pub ticket_seals : TicketAnswer → List Seal
ticket_seals (Issued lifetime seal) = seal ∷ []
ticket_seals Declined = []

-- no ticket is longer than one that a peer keeps
abbrev pub IsShortTicket : TicketAnswer → Type 0
IsShortTicket (Issued lifetime seal) = length seal.sealed.octets ≤ LONGEST_KEPT_TICKET
IsShortTicket Declined = Unit {0}

-- ---- responses

-- a ticket that was given, and for how many seconds it is taken
pub record TicketValue : Type 0 where
  pub lifetime : ℕ
  pub octets : List ℕ

-- so many octets are a lifetime and a ticket that a peer keeps
abbrev pub is_ticket_size : ℕ → Bool
is_ticket_size size =
    nat_le LIFETIME_OCTETS size && nat_le size (LIFETIME_OCTETS + LONGEST_KEPT_TICKET)

-- the data of a payload that gives a ticket
abbrev pub ticket_data : PayloadValue → Option (List ℕ)
ticket_data (notify n) =
    if (n.kind == TICKET_LT_OPAQUE) && is_ticket_size (length n.content) then Some n.content
    else None
ticket_data _ = None

-- of the first such payload: those of another size do not count
abbrev pub first_ticket : List PayloadValue → Option (List ℕ)
first_ticket payloads = slice_get (filter_map ticket_data payloads) 0

abbrev pub ticket_of : List ℕ → TicketValue
ticket_of octets = record {
  lifetime = from_be_bytes w32 (take LIFETIME_OCTETS octets);
  octets = drop LIFETIME_OCTETS octets;
}

-- the ticket that a response gives
abbrev pub ticket_in : List PayloadValue → Option TicketValue
ticket_in payloads = option_map ticket_of (first_ticket payloads)

-- it says that none is given
abbrev pub declines_ticket : List PayloadValue → Bool
declines_ticket payloads = is_some (first_notify TICKET_NACK payloads)

abbrev pub ticket_value : GivenTicket → TicketValue
ticket_value ticket = record { lifetime = ticket.lifetime; octets = ticket.octets.octets }

-- what a response says of tickets: one that is given counts before all else
abbrev pub IsTicketReply : List PayloadValue → TicketReply → Type 0
IsTicketReply payloads (reply.Given ticket) = ticket_in payloads ≡ Some (ticket_value ticket)
IsTicketReply payloads reply.Declined =
    (ticket_in payloads ≡ None) × (declines_ticket payloads ≡ true)
IsTicketReply payloads reply.Nothing =
    (ticket_in payloads ≡ None) × (declines_ticket payloads ≡ false)
