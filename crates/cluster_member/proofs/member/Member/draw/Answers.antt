-- The numbers of tickets are left.
use Rattle.turn_rules.specs.Held.{held_at}
use Rattle.turn_rules.specs.Tasks as task
use Rattle.cluster_member.proofs.MemberAfter.{member-follows}
use Rattle.cluster_member.specs.Members.{Holder, configuration_with}
use Rattle.turn_rules.specs.Fits.{DrawsOf}
use Rattle.cluster_member.proofs.Unticketed.{draws-unticketed, unticketed-numbers}
use Rattle.cluster_member.proofs.member.Member.draw.Goals as goal

pub returns : goal.returns
returns g c =
    let i = c.self.inside in
    let it = c.draw.ensures.draws in
    let step = c.draw.result in
    record {
      draws = record {
        calls = it.calls;
        follows = member-follows i.number (configuration_with i.identity i.window i.issuer) i.fresh i.issuer.numbers i.holdings.held c.draw.new.self.held c.args.self.now
            c.self.view_is (task.Draw c.args.spir) it.calls step (λ (o : Holder). DrawsOf (held_at o.held c.args.spir) it.calls step) it.follows.0 it.follows.1
            (unticketed-numbers it.calls step i.issuer.numbers (draws-unticketed (held_at i.holdings.held c.args.spir) it.calls step it.follows.0));
        asked = it.asked;
        held = it.held;
      };
    }
