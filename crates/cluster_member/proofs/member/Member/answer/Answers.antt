-- A request is answered with what tickets are issued with.
use Rattle.std.proofs.Common.{refl, ap, subst}
use Rattle.ticket_issuing.specs.Issuing.{Issuing}
use Rattle.turn_rules.specs.Held.{held_at}
use Rattle.turn_rules.specs.MemberMessages.{HeldAnswers, of_spii}
use Rattle.turn_rules.specs.Tasks as task
use Rattle.cluster_member.proofs.RequestAnswers.{answers-where}
use Rattle.cluster_member.proofs.member.Member.answer.Goals as goal
use Rattle.cluster_member.specs.Arriving.{TakesWhereHeld}
use Rattle.cluster_member.specs.Members.{Holder, IsAfter, configuration_with, member_held}

pub returns-clause-takes : goal.returns-clause-takes
returns-clause-takes g c =
    let i = c.self.inside in
    let it = c.answer.ensures.answers in
    let step = c.answer.result in
    let left = c.answer.new.issuer in
    let request = c.args.request.now in
    let new : Holder = record {
      number = i.number;
      config = configuration_with i.identity i.window left;
      fresh = i.fresh;
      held = c.answer.new.self.held;
      numbers = left.numbers;
    } in
    record {
      calls = it.calls;
      follows = subst (λ (o : Holder). TakesWhereHeld (held_at o.held) request (λ held. HeldAnswers (member_held o) c.args.now held request it.calls step)
          × IsAfter task.Receive it.calls step o new) c.self.view_is (
            answers-where i.issuer i.identity i.window i.fresh (held_at i.holdings.held) c.args.now step
                (of_spii request.header.spii (held_at i.holdings.held request.header.spir)) request it.calls it.follows.answers,
            record {
              number = refl;
              config = ap (configuration_with i.identity i.window) it.follows.issues;
              fresh = refl;
              holds = it.follows.holds i.window;
              numbers = ap (λ (x : Issuing). x.numbers) it.follows.issues;
            },
          );
      asked = it.asked;
      held = it.held;
    }
