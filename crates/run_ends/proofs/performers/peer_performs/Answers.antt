-- What the peer does, event by event.
use Rattle.std.proofs.Common.{refl}
use Rattle.keeper_book.proofs.Asking.{asks_for_none}
use Rattle.turn_rules.proofs.Cases.{ok-map2}
use Rattle.turn_rules.specs.Datagrams.{datagrams_of}
use Rattle.run_ends.proofs.Bounds.{arrives-short, fits_ask, fits_send}
use Rattle.run_ends.proofs.Events.{asked-as, if_ok-as, imports, peer_asks, peer_asks_again, peer_sends, peer_takes, asks_ticket, forgets}
use Rattle.run_ends.proofs.performers.peer_performs.Goals as goal

pub returns-in-Import-clause-acts : goal.returns-in-Import-clause-acts
returns-in-Import-clause-acts g c = if_ok-as c.import.result
    (λ step. asked-as (λ calls it. rw c.in-Import.is (imports (datagrams_of c.args.trace.now.past) c.args.now c.args.peer.now c.import.new.peer step c.in-Import.sa calls it.0 it.1))) c.import.ensures.imports

pub returns-in-Send-clause-acts : goal.returns-in-Send-clause-acts
returns-in-Send-clause-acts g c = ok-map2 c.send_data.result
    (λ step sends after. asks_for_none g.K.Keeper c.args.keeper.now (rw c.in-Send.is
    (peer_sends (datagrams_of c.args.trace.now.past) c.args.now c.args.peer.now c.send_data.new.self step c.in-Send.from c.in-Send.spir c.in-Send.payload (rw c.in-Send.is at c.requires.named)
    (fits_send c.in-Send.from c.in-Send.spir c.in-Send.payload (rw c.in-Send.is at c.requires.fits)) (rw c.as_slice.ensures.value at sends) (rw c.as_slice.ensures.value at after))))
    c.send_data.ensures.sends c.send_data.ensures.after

pub returns-in-Ask-clause-acts : goal.returns-in-Ask-clause-acts
returns-in-Ask-clause-acts g c = ok-map2 c.ask.result
    (λ step asks after. asks_for_none g.K.Keeper c.args.keeper.now (rw c.in-Ask.is
    (peer_asks (datagrams_of c.args.trace.now.past) c.args.now c.args.peer.now c.ask.new.self step c.in-Ask.from c.in-Ask.spir c.in-Ask.request (rw c.in-Ask.is at c.requires.named)
    (fits_ask c.in-Ask.from c.in-Ask.spir c.in-Ask.request (rw c.in-Ask.is at c.requires.fits)) (rw c.as_slice-in-Ask.ensures.value at asks) (rw c.as_slice-in-Ask.ensures.value at after))))
    c.ask.ensures.asks c.ask.ensures.after

pub returns-in-Again-clause-acts : goal.returns-in-Again-clause-acts
returns-in-Again-clause-acts g c = ok-map2 c.again.result
    (λ step resends after. asks_for_none g.K.Keeper c.args.keeper.now (rw c.in-Again.is
    (peer_asks_again (datagrams_of c.args.trace.now.past) c.args.now c.args.peer.now c.args.peer.now step c.in-Again.from c.in-Again.spir c.in-Again.id (rw c.in-Again.is at c.requires.named) resends after)))
    c.again.ensures.resends c.again.ensures.after

pub returns-in-Ticket-clause-acts : goal.returns-in-Ticket-clause-acts
returns-in-Ticket-clause-acts g c = ok-map2 c.ask_ticket.result
    (λ step asks after. asks_for_none g.K.Keeper c.args.keeper.now (rw c.in-Ticket.is (asks_ticket (datagrams_of c.args.trace.now.past) c.args.now c.args.peer.now c.ask_ticket.new.self step c.in-Ticket.spir asks after)))
    c.ask_ticket.ensures.asks c.ask_ticket.ensures.after

pub returns-in-Forget-clause-acts : goal.returns-in-Forget-clause-acts
returns-in-Forget-clause-acts g c = asks_for_none g.K.Keeper c.args.keeper.now
    (rw c.in-Forget.is (forgets (datagrams_of c.args.trace.now.past) c.args.now c.args.peer.now c.forget.new.self c.forget.result c.in-Forget.spir c.forget.ensures.forgets c.forget.ensures.after))

pub peer_takes-requires-clause-short : goal.peer_takes-requires-clause-short
peer_takes-requires-clause-short g c = arrives-short (datagrams_of c.args.trace.now.past) c.args.event.now c.in_ok-arrival-in_default.arrival c.requires.short c.requires.fits c.in_ok-arrival-in_default.ensures

pub returns-in_default-clause-acts : goal.returns-in_default-clause-acts
returns-in_default-clause-acts g c = if_ok-as c.peer_takes.result
    (λ step it. asks_for_none g.K.Keeper c.args.keeper.now
    (peer_takes (datagrams_of c.args.trace.now.past) c.args.now c.args.peer.now c.peer_takes.new.peer step c.args.event.now c.requires.named c.in_ok-arrival-in_default.arrival c.in_ok-arrival-in_default.ensures it))
    c.peer_takes.ensures.takes

-- nothing was delivered, so no service executed anything
pub returns-in-Send-clause-serves : goal.returns-in-Send-clause-serves
returns-in-Send-clause-serves g c = if_ok-as c.send_data.result (λ step acts. rw (acts.follows.own.alone (rw c.in-Send.is refl)) refl) (returns-in-Send-clause-acts g c)

pub returns-in-Ask-clause-serves : goal.returns-in-Ask-clause-serves
returns-in-Ask-clause-serves g c = if_ok-as c.ask.result (λ step acts. rw (acts.follows.own.alone (rw c.in-Ask.is refl)) refl) (returns-in-Ask-clause-acts g c)

pub returns-in-Again-clause-serves : goal.returns-in-Again-clause-serves
returns-in-Again-clause-serves g c = if_ok-as c.again.result (λ step acts. rw (acts.follows.own.alone (rw c.in-Again.is refl)) refl) (returns-in-Again-clause-acts g c)

pub returns-in-Ticket-clause-serves : goal.returns-in-Ticket-clause-serves
returns-in-Ticket-clause-serves g c = if_ok-as c.ask_ticket.result (λ step acts. rw (acts.follows.own.alone (rw c.in-Ticket.is refl)) refl) (returns-in-Ticket-clause-acts g c)

pub returns-in-Forget-clause-serves : goal.returns-in-Forget-clause-serves
returns-in-Forget-clause-serves g c = rw ((returns-in-Forget-clause-acts g c).follows.own.alone (rw c.in-Forget.is refl)) refl
