-- The tickets that the peer keeps.
use Rattle.std.specs.Prelude.{Option, None, List, Result, Ok, Err}
use Rattle.std.specs.Option.{option_map}
use Rattle.ha_base.specs.declared.outside.Moment.{Moment}
use Rattle.ike_sas.specs.TicketMessages.{TicketValue, ticket_in}
use Rattle.ike_values.specs.Values.{PayloadValue}
use Rattle.ike_values.specs.declared.fault.Bad.{Bad}
use Rattle.turn_rules.specs.PeerTickets.{KeptTicket}

-- a ticket as it is kept where it came at this moment
abbrev pub kept_at : Moment → TicketValue → KeptTicket
kept_at now ticket =
    record { octets = ticket.octets; lifetime = ticket.lifetime; received = now }

-- the ticket that a response with these inner payloads gives
abbrev pub ticket_inside : Moment → Result (List PayloadValue) Bad → Option KeptTicket
ticket_inside now (Ok payloads) = option_map (kept_at now) (ticket_in payloads)
ticket_inside now (Err bad) = None
