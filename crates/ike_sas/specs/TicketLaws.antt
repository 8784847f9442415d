-- What holds of the answers to requests for tickets.
use Rattle.std.specs.Prelude.{◌≡◌, ℕ, ◌^◌, ◌<◌, ◌≤◌, List, length, Option, Some, None, is_none}
use Rattle.ike_sas.specs.TicketMessages.{IsShortTicket, TicketValue, declines_ticket, payloads_with_ticket, ticket_in}
use Rattle.ike_sas.specs.declared.answers.TheConstants.{LONGEST_REPLY}
use Rattle.ike_sas.specs.declared.ticket_messages.TheConstants.{TICKET_ANSWER_OCTETS}
use Rattle.ike_sas.specs.declared.ticket_messages.TicketAnswer.{TicketAnswer}
use Rattle.ike_sas.specs.declared.ticket_messages.TicketAnswer.TheVariants.{Declined, Issued}
use Rattle.ike_values.specs.Writing.{chain_written}
use Rattle.sk_payload.specs.declared.open.Opened.{Opened}

-- the ticket in an answer
abbrev pub ticket_given : TicketAnswer → Option TicketValue
ticket_given (Issued lifetime seal) =
    Some (record { lifetime = lifetime; octets = seal.sealed.octets })
ticket_given Declined = None

abbrev pub HasLifetime : TicketAnswer → Type 0
HasLifetime (Issued lifetime seal) = lifetime < 2 ^ 32
HasLifetime Declined = Unit {0}

-- a peer reads in the response what a member answered: the ticket, or that none is given
abbrev pub TicketAnswersAreRead : Type 0
TicketAnswersAreRead =
    (request : Opened) (told : List ℕ) (answer : TicketAnswer) →
    IsShortTicket answer → HasLifetime answer →
    (ticket_in (payloads_with_ticket request told answer) ≡ ticket_given answer)
    × (declines_ticket (payloads_with_ticket request told answer)
    ≡ is_none (ticket_given answer))

-- an answer fits the room that is made for it
abbrev pub TicketAnswersFit : Type 0
TicketAnswersFit =
    (request : Opened) (told : List ℕ) (answer : TicketAnswer) →
    length told ≤ LONGEST_REPLY → IsShortTicket answer →
    length (chain_written (payloads_with_ticket request told answer)) ≤ TICKET_ANSWER_OCTETS
