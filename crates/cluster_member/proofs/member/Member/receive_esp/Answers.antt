-- A covered genuine packet is accepted at first delivery.
use Rattle.std.proofs.Common.{◌≡◌, ap, subst, ◌∙◌}
use Rattle.turn_rules.specs.Held.{held_at}
use Rattle.turn_rules.specs.MemberPackets.{MemberReceives}
use Rattle.cluster_member.proofs.GenuineLaws.{genuine_accepted}
use Rattle.cluster_member.proofs.Unticketed.{receives-unticketed, unticketed-numbers}
use Rattle.cluster_member.proofs.member.Member.receive_esp.Goals as goal
use Rattle.cluster_member.specs.Members.{Holder, ReceivesOn}

pub returns-clause-receives : goal.returns-clause-receives
returns-clause-receives g c =
    let it = c.receive.ensures.receives in
    let old : c.self.inside.holdings.held ≡ c.args.self.now.held = ap (λ (v : Holder). v.held) c.self.view_is in
    let from : MemberReceives (held_at c.args.self.now.held) c.args.bytes.now it.calls c.receive.result c.receive.new.bytes =
    subst (λ hs. MemberReceives (held_at hs) c.args.bytes.now it.calls c.receive.result c.receive.new.bytes) old it.follows.0 in
    let on : ReceivesOn it.calls c.receive.result c.receive.new.bytes c.args.self.now.held c.receive.new.self.held =
    subst (λ hs. ReceivesOn it.calls c.receive.result c.receive.new.bytes hs c.receive.new.self.held) old it.follows.1 in
    let numbers : c.self.inside.issuer.numbers ≡ c.args.self.now.numbers = ap (λ (v : Holder). v.numbers) c.self.view_is in
    record {
      calls = it.calls;
      follows = (
        from,
        genuine_accepted c.sealed_packets_open.ensures c.args.self.now.held c.args.bytes.now it.calls c.receive.result c.receive.new.bytes from,
        λ step worded quiet. record {
          number = ap (λ (v : Holder). v.number) c.self.view_is;
          config = ap (λ (v : Holder). v.config) c.self.view_is;
          fresh = ap (λ (v : Holder). v.fresh) c.self.view_is;
          holds = on step worded quiet c.args.self.now.config.window;
          numbers = numbers ∙ unticketed-numbers it.calls step c.args.self.now.numbers
              (receives-unticketed (held_at c.args.self.now.held) c.args.bytes.now it.calls c.receive.result c.receive.new.bytes step from worded);
        },
      );
      asked = it.asked;
      held = it.held;
    }
