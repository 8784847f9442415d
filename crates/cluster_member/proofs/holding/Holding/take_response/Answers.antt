-- The response to an outstanding request ends it.
use Rattle.std.proofs.Common.{rules}
use Rattle.keeper_book.specs.declared.counters.Counter.TheVariants as counter
use Rattle.turn_rules.proofs.Cases.{ok-map2}
use Rattle.turn_rules.specs.Draws.{counter_name}
use Rattle.turn_rules.specs.MemberMessages.{KeepsNothing}
use Rattle.turn_rules.specs.Messages.{TakesInner}
use Rattle.cluster_member.proofs.Answers.{taken-advances}
use Rattle.cluster_member.proofs.holding.Holding.take_response.Goals as goal

pub returns-clause-takes : goal.returns-clause-takes
returns-clause-takes c =
    let held = c.args.self.now in
    let response = c.args.response.now in
    ok-map2 c.take_reply.result (λ step takes after.
    let by_name : TakesInner KeepsNothing (counter_name held.sa counter.Ask) response.header.id response.inner step = search rules in
    (by_name, taken-advances held _ response.header.id step response.inner by_name (search rules))) c.take_reply.ensures.takes c.take_reply.ensures.held
