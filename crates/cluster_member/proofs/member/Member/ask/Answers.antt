-- The numbers of tickets are left.
use Rattle.std.proofs.Common.{List, subst}
use Rattle.ike_values.specs.Values.{PayloadValue}
use Rattle.turn_rules.specs.Held.{held_at}
use Rattle.turn_rules.specs.MemberMessages.{AsksOf}
use Rattle.turn_rules.specs.Tasks as task
use Rattle.cluster_member.proofs.MemberAfter.{holder, member-follows}
use Rattle.cluster_member.proofs.Unticketed.{asks-unticketed, unticketed-numbers}
use Rattle.cluster_member.proofs.member.Member.ask.Goals as goal
use Rattle.cluster_member.specs.Members.{Holder, IsAfter, configuration_with}

pub returns-clause-asks : goal.returns-clause-asks
returns-clause-asks g c =
    let i = c.self.inside in
    let it = c.send_request.ensures.asks in
    let step = c.send_request.result in
    let spir = c.args.spir in
    let room = c.in_ok-room.room in
    let new : Holder = holder i.number (configuration_with i.identity i.window i.issuer) i.fresh i.issuer.numbers c.send_request.new.self.held in
    record {
      calls = it.calls;
      follows = subst (λ (payloads : List PayloadValue). AsksOf (held_at c.args.self.now.held spir) payloads it.calls step
          × IsAfter (task.Ask spir payloads) it.calls step c.args.self.now new) c.in_ok-room.ensures
          (member-follows i.number (configuration_with i.identity i.window i.issuer) i.fresh i.issuer.numbers i.holdings.held c.send_request.new.self.held c.args.self.now
          c.self.view_is (task.Ask spir room) it.calls step (λ (o : Holder). AsksOf (held_at o.held spir) room it.calls step) it.follows.0 it.follows.1
          (unticketed-numbers it.calls step i.issuer.numbers (asks-unticketed (held_at i.holdings.held spir) room it.calls step it.follows.0)));
      asked = it.asked;
      held = it.held;
    }
