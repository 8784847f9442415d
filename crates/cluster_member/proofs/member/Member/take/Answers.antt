-- Each kind of arrival, by what is done with it.
use Rattle.std.proofs.Common.{[], IfOk, List, refl, ap, sym, subst}
use Rattle.events.specs.declared.ike_outcomes.IkeDrop.TheVariants as drop
use Rattle.events.specs.declared.turn.Step.{Step}
use Rattle.events.specs.declared.verdict.Verdict.TheVariants as out
use Rattle.ike_sas.specs.declared.arrival.Arrival.{Arrival}
use Rattle.ike_sas.specs.declared.exchanges.TheConstants.{IKE_SESSION_RESUME}
use Rattle.keeper_book.proofs.Asking.{asks_for_none}
use Rattle.keeper_book.specs.Asks.{AsksFor}
use Rattle.keeper_book.specs.declared.counters.Counter.TheVariants as counter
use Rattle.request_exchange.specs.Given.{IsFitting}
use Rattle.turn_rules.proofs.Cases.{ok-map}
use Rattle.turn_rules.specs.Draws.{counter_name}
use Rattle.turn_rules.specs.Held.{Held, held_at}
use Rattle.turn_rules.specs.MemberMessages.{KeepsNothing, member_listener}
use Rattle.turn_rules.specs.Messages.{TakesArrival, TakesInner}
use Rattle.turn_rules.specs.Tasks as task
use Rattle.turn_rules.specs.TicketNumbers.{ticket_number}
use Rattle.cluster_member.proofs.Arriving.{drop-holds, none-synchronise, unmoved-holds}
use Rattle.cluster_member.proofs.MemberAfter.{holder, quiet-after, same-after}
use Rattle.cluster_member.proofs.Unticketed.{takes-sync-unused, takes-there-unused}
use Rattle.cluster_member.proofs.member.Member.take.Goals as goal
use Rattle.cluster_member.specs.Arriving.{TakesWhereHeld, ike_under}
use Rattle.cluster_member.specs.Members.{Holder, HoldsOn, IsAfter, configuration_with, member_held}

pub returns-in-Dropped-clause-takes : goal.returns-in-Dropped-clause-takes
returns-in-Dropped-clause-takes g c =
    let old = c.args.self.now in
    let step = c.drop_message.result in
    let says = c.drop_message.ensures in
    asks_for_none g.K.Keeper c.args.keeper.now (
      subst (λ (a : Arrival). TakesArrival (member_listener (member_held old) c.args.now) a [] step) (sym c.in-Dropped.is) (refl, says),
      same-after old step (drop-holds step c.in-Dropped.why old.held says) (ap ticket_number says.said),
    )

pub returns-in-Resumption-clause-takes : goal.returns-in-Resumption-clause-takes
returns-in-Resumption-clause-takes g c =
    let old = c.args.self.now in
    let step = c.drop_message-in-Resumption.result in
    let says = c.drop_message-in-Resumption.ensures in
    asks_for_none g.K.Keeper c.args.keeper.now (
      subst (λ (a : Arrival). TakesArrival (member_listener (member_held old) c.args.now) a [] step) (sym c.in-Resumption.is) (refl, says),
      same-after old step (drop-holds step (drop.Exchange IKE_SESSION_RESUME) old.held says) (ap ticket_number says.said),
    )

pub returns-in-SyncResponse-clause-takes : goal.returns-in-SyncResponse-clause-takes
returns-in-SyncResponse-clause-takes g c =
    let i = c.self.inside in
    let step = c.take_sync.result in
    let response = c.in-SyncResponse.response in
    let now : Holder = holder i.number (configuration_with i.identity i.window i.issuer) i.fresh i.issuer.numbers c.take_sync.new.self.held in
    asks_for_none g.K.Keeper c.args.keeper.now (subst (λ (o : Holder). TakesArrival (member_listener (member_held o) c.args.now) c.args.arrival [] step
    × IsAfter task.Receive [] step o now) c.self.view_is (
      subst (λ (a : Arrival). TakesArrival (member_listener (member_held
          (holder i.number (configuration_with i.identity i.window i.issuer) i.fresh i.issuer.numbers i.holdings.held)) c.args.now) a [] step)
          (sym c.in-SyncResponse.is) c.take_sync.ensures.takes,
      quiet-after i.number (configuration_with i.identity i.window i.issuer) i.fresh i.issuer.numbers i.holdings.held c.take_sync.new.self.held _ refl step
          c.take_sync.ensures.holds (takes-sync-unused i.fresh (held_at i.holdings.held) response step c.take_sync.ensures.takes),
    ))

pub returns-in-Response-clause-takes : goal.returns-in-Response-clause-takes
returns-in-Response-clause-takes g c =
    let i = c.self-in-Response.inside in
    let held = i.holdings.held in
    let new : List Held = c.take_response.new.self.held in
    let response = c.in-Response.response in
    let config = configuration_with i.identity i.window i.issuer in
    ok-map {P = λ (step : Step). TakesWhereHeld (held_at held) response (λ h. TakesInner KeepsNothing (counter_name h.sa counter.Ask) response.header.id response.inner step)
    × HoldsOn task.Receive [] step held new} c.take_response.result
    (λ step t. asks_for_none g.K.Keeper c.args.keeper.now (subst (λ (o : Holder). TakesArrival (member_listener (member_held o) c.args.now) c.args.arrival [] step
    × IsAfter task.Receive [] step o (holder i.number config i.fresh i.issuer.numbers new)) c.self-in-Response.view_is (
      subst (λ (a : Arrival). TakesArrival (member_listener (member_held (holder i.number config i.fresh i.issuer.numbers held)) c.args.now) a [] step)
          (sym c.in-Response.is) (refl, t.0),
      quiet-after i.number config i.fresh i.issuer.numbers held new _ refl step t.1 (takes-there-unused (held_at held) response step t.0),
    ))) c.take_response.ensures.takes

pub returns-in-Repeat-clause-takes : goal.returns-in-Repeat-clause-takes
returns-in-Repeat-clause-takes g c =
    let old = c.args.self.now in
    let step = c.repeat.result in
    let again = c.repeat.ensures in
    asks_for_none g.K.Keeper c.args.keeper.now (
      subst (λ (a : Arrival). TakesArrival (member_listener (member_held old) c.args.now) a [] step) (sym c.in-Repeat.is) (refl, again),
      same-after old step (unmoved-holds step (out.Repeated c.in-Repeat.id) old.held again.seals again.said (λ s. refl) (λ s. refl) (λ s. refl) refl)
          (ap ticket_number again.said),
    )

pub returns-clause-takes : goal.returns-clause-takes
returns-clause-takes g c = subst (λ (a : Arrival). IfOk c.answer.result (λ (step : Step). AsksFor g.K.Keeper c.args.keeper.now c.answer.new.keeper (λ calls.
    TakesArrival (member_listener (member_held c.args.self.now) c.args.now) a calls step × IsAfter task.Receive calls step c.args.self.now c.answer.new.self)))
    (sym c.in-New.is) c.answer.ensures.takes

pub unreachable-requires : goal.unreachable-requires
unreachable-requires g c = none-synchronise (held_at c.args.self.now.held) c.in-Synchronisation.field-0
    (subst (IsFitting (ike_under (held_at c.args.self.now.held))) c.in-Synchronisation.is c.requires.fitting)
