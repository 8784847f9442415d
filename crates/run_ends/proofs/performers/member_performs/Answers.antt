-- What a member does, event by event.
use Rattle.std.proofs.Common.{[], refl}
use Rattle.keeper_book.proofs.Asking.{asks_for_none}
use Rattle.turn_rules.specs.Datagrams.{datagrams_of}
use Rattle.run_ends.proofs.Bounds.{arrives-short, fits_ask, fits_send}
use Rattle.run_ends.proofs.Events.{asked-as, asks, asks_again, draws, if_ok-as, owns, sends, syncs, takes}
use Rattle.run_ends.proofs.performers.member_performs.Goals as goal

pub returns-in-Own-clause-acts : goal.returns-in-Own-clause-acts
returns-in-Own-clause-acts g c = if_ok-as c.take_over.result
    (λ step. asked-as (λ calls it. rw c.in-Own.is
    (owns (datagrams_of c.args.trace.now.past) c.args.now c.args.member.now c.take_over.new.self calls step c.in-Own.member c.in-Own.spir (rw c.in-Own.is at c.requires.named) it.0 it.1)))
    c.take_over.ensures.takes

pub returns-in-Draw-clause-acts : goal.returns-in-Draw-clause-acts
returns-in-Draw-clause-acts g c = asked-as
    (λ calls it. rw c.in-Draw.is
    (draws (datagrams_of c.args.trace.now.past) c.args.now c.args.member.now c.draw.new.self calls c.draw.result c.in-Draw.member c.in-Draw.spir (rw c.in-Draw.is at c.requires.named) it.0 it.1))
    c.draw.ensures.draws

pub returns-in-Send-clause-acts : goal.returns-in-Send-clause-acts
returns-in-Send-clause-acts g c = if_ok-as c.send_data.result
    (λ step. asked-as (λ calls it. rw c.in-Send.is
    (sends (datagrams_of c.args.trace.now.past) c.args.now c.args.member.now c.send_data.new.self calls step c.in-Send.from c.in-Send.spir c.in-Send.payload (rw c.in-Send.is at c.requires.named)
    (fits_send c.in-Send.from c.in-Send.spir c.in-Send.payload (rw c.in-Send.is at c.requires.fits)) (rw c.as_slice.ensures.value at it.0) (rw c.as_slice.ensures.value at it.1))))
    c.send_data.ensures.sends

pub returns-in-Ask-clause-acts : goal.returns-in-Ask-clause-acts
returns-in-Ask-clause-acts g c = if_ok-as c.ask.result
    (λ step. asked-as (λ calls it. rw c.in-Ask.is
    (asks (datagrams_of c.args.trace.now.past) c.args.now c.args.member.now c.ask.new.self calls step c.in-Ask.from c.in-Ask.spir c.in-Ask.request (rw c.in-Ask.is at c.requires.named)
    (fits_ask c.in-Ask.from c.in-Ask.spir c.in-Ask.request (rw c.in-Ask.is at c.requires.fits)) (rw c.as_slice-in-Ask.ensures.value at it.0) (rw c.as_slice-in-Ask.ensures.value at it.1))))
    c.ask.ensures.asks

pub returns-in-Again-clause-acts : goal.returns-in-Again-clause-acts
returns-in-Again-clause-acts g c = if_ok-as c.again.result
    (λ step it. asks_for_none g.K.Keeper c.args.keeper.now (rw c.in-Again.is
    (asks_again (datagrams_of c.args.trace.now.past) c.args.now c.args.member.now c.args.member.now [] step c.in-Again.from c.in-Again.spir c.in-Again.id (rw c.in-Again.is at c.requires.named) it.0 it.1)))
    c.again.ensures.resends

pub returns-in-Sync-clause-acts : goal.returns-in-Sync-clause-acts
returns-in-Sync-clause-acts g c = if_ok-as c.begin_sync.result
    (λ step. asked-as (λ calls it. rw c.in-Sync.is
    (syncs (datagrams_of c.args.trace.now.past) c.args.now c.args.member.now c.begin_sync.new.self calls step c.in-Sync.member c.in-Sync.spir (rw c.in-Sync.is at c.requires.named) it.0 it.1)))
    c.begin_sync.ensures.syncs

pub member_takes-requires-clause-short : goal.member_takes-requires-clause-short
member_takes-requires-clause-short g c = arrives-short (datagrams_of c.args.trace.now.past) c.args.event.now c.in_ok-arrival-in_default.arrival c.requires.short c.requires.fits c.in_ok-arrival-in_default.ensures

pub returns-in_default-clause-acts : goal.returns-in_default-clause-acts
returns-in_default-clause-acts g c = if_ok-as c.member_takes.result
    (λ step. asked-as (λ calls.
    takes (datagrams_of c.args.trace.now.past) c.args.now c.args.member.now c.member_takes.new.member calls step c.args.event.now c.requires.named c.in_ok-arrival-in_default.arrival c.in_ok-arrival-in_default.ensures))
    c.member_takes.ensures.takes

-- nothing was delivered, so no service executed anything
pub returns-in-Own-clause-serves : goal.returns-in-Own-clause-serves
returns-in-Own-clause-serves g c = if_ok-as c.take_over.result (λ step acts. rw (acts.follows.own.alone (rw c.in-Own.is refl)) refl) (returns-in-Own-clause-acts g c)

pub returns-in-Draw-clause-serves : goal.returns-in-Draw-clause-serves
returns-in-Draw-clause-serves g c = rw ((returns-in-Draw-clause-acts g c).follows.own.alone (rw c.in-Draw.is refl)) refl

pub returns-in-Send-clause-serves : goal.returns-in-Send-clause-serves
returns-in-Send-clause-serves g c = if_ok-as c.send_data.result (λ step acts. rw (acts.follows.own.alone (rw c.in-Send.is refl)) refl) (returns-in-Send-clause-acts g c)

pub returns-in-Ask-clause-serves : goal.returns-in-Ask-clause-serves
returns-in-Ask-clause-serves g c = if_ok-as c.ask.result (λ step acts. rw (acts.follows.own.alone (rw c.in-Ask.is refl)) refl) (returns-in-Ask-clause-acts g c)

pub returns-in-Again-clause-serves : goal.returns-in-Again-clause-serves
returns-in-Again-clause-serves g c = if_ok-as c.again.result (λ step acts. rw (acts.follows.own.alone (rw c.in-Again.is refl)) refl) (returns-in-Again-clause-acts g c)

pub returns-in-Sync-clause-serves : goal.returns-in-Sync-clause-serves
returns-in-Sync-clause-serves g c = if_ok-as c.begin_sync.result (λ step acts. rw (acts.follows.own.alone (rw c.in-Sync.is refl)) refl) (returns-in-Sync-clause-acts g c)
