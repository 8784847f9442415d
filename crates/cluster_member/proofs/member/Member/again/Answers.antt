-- Nothing changes.
use Rattle.std.proofs.Common.{[]}
use Rattle.events.specs.declared.turn.Step.{Step}
use Rattle.turn_rules.proofs.Cases.{ok-map}
use Rattle.turn_rules.specs.Held.{held_at}
use Rattle.turn_rules.specs.MemberMessages.{ResendsOf}
use Rattle.cluster_member.proofs.MemberAfter.{again-follows}
use Rattle.cluster_member.proofs.member.Member.again.Goals as goal
use Rattle.cluster_member.specs.Members.{configuration_with}

pub returns : goal.returns
returns c =
    let i = c.self.inside in
    let spir = c.args.spir in
    let id = c.args.id in
    record {
      resends = ok-map {P = λ (step : Step). ResendsOf (held_at i.holdings.held spir) id [] step} c.send_again.result
          (λ step resends. again-follows i.number (configuration_with i.identity i.window i.issuer) i.fresh i.issuer.numbers i.holdings.held c.args.self.now c.self.view_is
          spir id step resends)
          c.send_again.ensures;
    }
