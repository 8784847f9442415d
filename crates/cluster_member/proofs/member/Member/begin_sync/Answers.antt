-- The numbers of tickets are left.
use Rattle.turn_rules.specs.Held.{held_at}
use Rattle.turn_rules.specs.Tasks as task
use Rattle.cluster_member.proofs.MemberAfter.{member-follows}
use Rattle.cluster_member.specs.Members.{Holder, configuration_with}
use Rattle.events.specs.declared.turn.Step.{Step}
use Rattle.keeper_book.specs.Asks.{AsksFor}
use Rattle.turn_rules.proofs.Cases.{ok-map}
use Rattle.turn_rules.specs.MemberMessages.{SyncsOf}
use Rattle.cluster_member.proofs.Unticketed.{syncs-unticketed, unticketed-numbers}
use Rattle.cluster_member.specs.Members.{HoldsOn}
use Rattle.cluster_member.proofs.member.Member.begin_sync.Goals as goal

pub returns-clause-syncs : goal.returns-clause-syncs
returns-clause-syncs g c =
    let i = c.self.inside in
    let fresh = i.fresh in
    ok-map {P = λ (step : Step). AsksFor g.K.Keeper c.args.keeper.now c.begin_sync.new.keeper (λ calls.
    SyncsOf fresh (held_at i.holdings.held c.args.spir) calls step × HoldsOn (task.Sync c.args.spir) calls step i.holdings.held c.begin_sync.new.self.held)} c.begin_sync.result
    (λ step it. record {
      calls = it.calls;
      follows = member-follows i.number (configuration_with i.identity i.window i.issuer) i.fresh i.issuer.numbers i.holdings.held c.begin_sync.new.self.held c.args.self.now
          c.self.view_is (task.Sync c.args.spir) it.calls step (λ (o : Holder). SyncsOf o.fresh (held_at o.held c.args.spir) it.calls step) it.follows.0 it.follows.1
          (unticketed-numbers it.calls step i.issuer.numbers (syncs-unticketed fresh (held_at i.holdings.held c.args.spir) it.calls step it.follows.0));
      asked = it.asked;
      held = it.held;
    }) c.begin_sync.ensures.syncs
