-- What is left has the same first ticket.
use Rattle.std.proofs.Common.{◌≡◌, map, length}
use Rattle.ike_sas.proofs.ticket_messages.first_ticket.Given as goal
use Rattle.ike_sas.specs.TicketMessages.{first_ticket}
use Rattle.ike_values.specs.PayloadView.{payload_value}

abbrev pub invariant-loop-rest : goal.invariant-loop-rest
invariant-loop-rest l = first_ticket (map payload_value l.rest) ≡ first_ticket (map payload_value l.fn.payloads)

abbrev pub decreases-loop-rest : goal.decreases-loop-rest
decreases-loop-rest l = length l.rest
