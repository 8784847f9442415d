-- What an event asks of the end that performs it, whoever that is.
use Rattle.std.specs.Prelude.{ℕ, Option, Some, None, List}
use Rattle.events.specs.declared.event.Event.{Event}
use Rattle.events.specs.declared.event.Event.TheVariants as event
use Rattle.events.specs.declared.event.Party.TheVariants as parties
use Rattle.ike_sas.specs.Answers.{request_payloads}
use Rattle.ike_sas.specs.TicketMessages.{ticket_request_payloads}
use Rattle.ike_values.specs.Values.{PayloadValue}
use Rattle.keeper_book.specs.declared.records.Record.{Record}
use Rattle.turn_rules.specs.Datagrams.{Delivery, delivery_of}

-- what is asked is asked by the inner payloads of a request
pub data Task : Type 0 where
  Nothing : Task
  Enter : (sa : Record) → Task
  TakeOver : (spir : ℕ) → Task
  Draw : (spir : ℕ) → Task
  Send : (spir : ℕ) → (payload : List ℕ) → Task
  Ask : (spir : ℕ) → (payloads : List PayloadValue) → Task
  Again : (spir id : ℕ) → Task
  Sync : (spir : ℕ) → Task
  Forget : (spir : ℕ) → Task
  Receive : Task

-- whoever a delivery comes to receives it
abbrev pub receipt : Option Delivery → Task
receipt None = Nothing
receipt (Some delivery) = Receive

-- what a member is asked
abbrev pub member_task : Event → Task
member_task (event.Own member spir) = TakeOver spir
member_task (event.Draw member spir) = Draw spir
member_task (event.Send (parties.Member member) spir payload) = Send spir payload.octets
member_task (event.Ask (parties.Member member) spir request) =
    Ask spir (request_payloads request.octets)
member_task (event.Again (parties.Member member) spir id) = Again spir id
member_task (event.Sync member spir) = Sync spir
member_task event = receipt (delivery_of event)

-- and what the peer is asked
abbrev pub peer_task : Event → Task
peer_task (event.Import sa) = Enter sa
peer_task (event.Send parties.Peer spir payload) = Send spir payload.octets
peer_task (event.Ask parties.Peer spir request) = Ask spir (request_payloads request.octets)
peer_task (event.Again parties.Peer spir id) = Again spir id
peer_task (event.Ticket spir) = Ask spir ticket_request_payloads
peer_task (event.Forget spir) = Forget spir
peer_task event = receipt (delivery_of event)
