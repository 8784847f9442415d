-- The numbers of tickets are left.
use Rattle.turn_rules.specs.Held.{held_at}
use Rattle.turn_rules.specs.Tasks as task
use Rattle.cluster_member.proofs.MemberAfter.{member-follows}
use Rattle.cluster_member.specs.Members.{Holder, configuration_with}
use Rattle.turn_rules.specs.Fits.{SendsOf}
use Rattle.cluster_member.proofs.Unticketed.{sends-unticketed, unticketed-numbers}
use Rattle.cluster_member.proofs.member.Member.send_data.Goals as goal

pub returns-clause-sends : goal.returns-clause-sends
returns-clause-sends g c =
    let i = c.self.inside in
    let it = c.send.ensures.sends in
    let step = c.send.result in
    let payload = c.args.payload.now in
    record {
      calls = it.calls;
      follows = member-follows i.number (configuration_with i.identity i.window i.issuer) i.fresh i.issuer.numbers i.holdings.held c.send.new.self.held c.args.self.now
          c.self.view_is (task.Send c.args.spir payload) it.calls step (λ (o : Holder). SendsOf (held_at o.held c.args.spir) payload it.calls step) it.follows.0 it.follows.1
          (unticketed-numbers it.calls step i.issuer.numbers (sends-unticketed (held_at i.holdings.held c.args.spir) payload it.calls step it.follows.0));
      asked = it.asked;
      held = it.held;
    }
