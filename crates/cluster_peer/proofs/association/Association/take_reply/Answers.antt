-- The request ends, and the ticket that the response gives is kept.
use Rattle.std.proofs.Common.{◌≡◌, ap, ◌∙◌, subst}
use Rattle.ike_sas.specs.Held.{without_asked}
use Rattle.keeper_book.specs.declared.counters.Counter.TheVariants as counter
use Rattle.turn_rules.specs.Held.{first_some}
use Rattle.turn_rules.specs.Messages.{TakesInner}
use Rattle.turn_rules.specs.PeerMessages.{KeepsTicket}
use Rattle.turn_rules.specs.Slots.{Slot, peer_counter, slot_after}
use Rattle.turn_rules.specs.Tasks as task
use Rattle.cluster_peer.specs.KeptTickets.{ticket_inside}
use Rattle.cluster_peer.proofs.MessageMoves.{replied-own}
use Rattle.cluster_peer.proofs.association.Association.take_reply.Goals as goal

pub returns-clause-after : goal.returns-clause-after
returns-clause-after c =
    let inside = c.self.inside in
    let ike = c.self.inside.ike in
    let response = c.args.response.now in
    let step = c.in_ok-step.step in
    let old : Slot = record { sa = inside.sa; live = inside.live; next = inside.lot.next; window = inside.inbound.window; iv = inside.ivs.next; ask = ike.next; asked = ike.asked; answered = ike.answered; highest = inside.highest; ticket = inside.ticket } in
    let held : c.take_reply_with_ticket.new.sa ≡ without_asked response.header.id ike = c.in_ok-step.ensures.held in
    let ticket : c.in_ok-ticket.ticket ≡ ticket_inside c.args.now response.inner = c.in_ok-ticket.ensures in
    let takes : TakesInner KeepsTicket (peer_counter inside.sa counter.Ask) response.header.id response.inner step =
    subst (λ name. TakesInner KeepsTicket name response.header.id response.inner step) c.name_at-name.ensures c.in_ok-step.ensures.takes in
    c.keep_ticket.ensures
    ∙ (λ i. record { sa = inside.sa; live = inside.live; next = inside.lot.next; window = inside.inbound.window; iv = inside.ivs.next; ask = (held i).next; asked = (held i).asked; answered = (held i).answered; highest = inside.highest; ticket = first_some (ticket i) inside.ticket })
    ∙ replied-own c.args.now old response.header.id response.inner step takes
    ∙ ap (slot_after c.args.now task.Receive step) c.self.view_is
