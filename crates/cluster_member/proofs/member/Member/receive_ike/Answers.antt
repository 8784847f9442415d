-- What a message is decides what is done with it.
use Rattle.std.proofs.Common.{subst}
use Rattle.events.specs.declared.turn.Step.{Step}
use Rattle.ha_base.specs.declared.counter_names.End.TheVariants as end
use Rattle.ike_sas.specs.Arrivals.{IsArrival, NewIsNew}
use Rattle.keeper_book.specs.Asks.{AsksFor}
use Rattle.request_exchange.proofs.Arrivals.{fitting}
use Rattle.request_exchange.specs.Given.{IsFitting}
use Rattle.turn_rules.proofs.Cases.{ok-map}
use Rattle.turn_rules.specs.Held.{held_at}
use Rattle.turn_rules.specs.MemberMessages.{member_listener}
use Rattle.turn_rules.specs.Messages.{TakesArrival}
use Rattle.turn_rules.specs.Tasks as task
use Rattle.cluster_member.proofs.member.Member.receive_ike.Goals as goal
use Rattle.cluster_member.specs.Arriving.{ike_under}
use Rattle.cluster_member.specs.Members.{Holder, IsAfter, member_held}

pub take-requires-clause-new : goal.take-requires-clause-new
take-requires-clause-new g c =
    subst (λ (o : Holder). NewIsNew (ike_under (held_at o.held)) c.in_ok-arrival.arrival) c.self.view_is c.in_ok-arrival.ensures.new

pub take-requires-clause-fitting : goal.take-requires-clause-fitting
take-requires-clause-fitting g c =
    subst (λ (o : Holder). IsFitting (ike_under (held_at o.held)) c.in_ok-arrival.arrival) c.self.view_is
    (fitting (ike_under (held_at c.self.inside.holdings.held)) end.Cluster c.args.bytes.now c.in_ok-arrival.arrival c.in_ok-arrival.ensures.steps)

pub returns-clause-takes : goal.returns-clause-takes
returns-clause-takes g c =
    let is : IsArrival (ike_under (held_at c.args.self.now.held)) end.Cluster c.args.bytes.now c.in_ok-arrival.arrival =
    subst (λ (o : Holder). IsArrival (ike_under (held_at o.held)) end.Cluster c.args.bytes.now c.in_ok-arrival.arrival) c.self.view_is c.in_ok-arrival.ensures.steps in
    ok-map {P = λ (step : Step). AsksFor g.K.Keeper c.args.keeper.now c.take.new.keeper (λ calls.
    TakesArrival (member_listener (member_held c.args.self.now) c.args.now) c.in_ok-arrival.arrival calls step × IsAfter task.Receive calls step c.args.self.now c.take.new.self)}
    c.take.result
    (λ step it. record {
      calls = it.calls;
      follows = (record { comes = c.in_ok-arrival.arrival; is = is; takes = it.follows.0 }, it.follows.1);
      asked = it.asked;
      held = it.held;
    }) c.take.ensures.takes
