-- A request is sent under the next Message ID and the next IV.
use Rattle.std.proofs.Common.{rules, ap, subst}
use Rattle.spend_once.specs.Lot.{Drawn}
use Rattle.turn_rules.specs.Messages.{SendsRequest}
use Rattle.cluster_member.proofs.Asked.{asks-next, asks-stopped, holding-asked, holding-stopped}
use Rattle.cluster_member.proofs.holding.Holding.send_next.Goals as goal

pub invariant_of-self : goal.invariant_of-self
invariant_of-self g c =
    let h = c.self.inside in
    let it = c.ready_with_iv.ensures.calls in
    holding-asked h.sa h.epoch h.esp_out h.esp_in h.iv h.ask h.answer h.outbound h.inbound h.ike h.attempt c.self.invariant c.ready_with_iv.new.horizon c.ready_with_iv.new.iv it.calls c.ready_with_iv.result
    (rw c.next-id.ensures.value at it.follows) c.jump.new.self c.ask.new.sa c.ask.result (rw c.next-id.ensures.value at c.jump.ensures) (rw c.next-id.ensures.value at c.ask.ensures.held)
    c.ready_with_iv.ensures.same c.ready_with_iv.ensures.same_iv

pub invariant_of-self-in-Err : goal.invariant_of-self-in-Err
invariant_of-self-in-Err g c =
    let h = c.self.inside in
    let it = c.ready_with_iv.ensures.calls in
    holding-stopped h.sa h.epoch h.esp_out h.esp_in h.iv h.ask h.answer h.outbound h.inbound h.ike h.attempt c.self.invariant h.ask.next c.ready_with_iv.new.horizon c.ready_with_iv.new.iv it.calls c.ready_with_iv.result
    (rw c.next-id.ensures.value at it.follows) c.ready_with_iv.ensures.same c.ready_with_iv.ensures.same_iv

pub returns-in-Ok-clause-asks : goal.returns-in-Ok-clause-asks
returns-in-Ok-clause-asks g c =
    let h = c.self.inside in
    let it = c.ready_with_iv.ensures.calls in
    let sends : SendsRequest h.ike h.ask.next h.iv.next c.args.room c.ask.result =
    subst (λ n. SendsRequest h.ike h.ask.next n c.args.room c.ask.result) (ap (λ (n : Drawn). n.value) c.in-Ok.ensures.number) (rw c.next-id.ensures.value at c.ask.ensures.sends) in
    record {
      calls = it.calls;
      follows = asks-next h.sa h.epoch h.esp_out h.esp_in h.iv h.ask h.answer h.outbound h.inbound h.ike h.attempt c.self.invariant c.ready_with_iv.new.horizon c.ready_with_iv.new.iv it.calls c.ready_with_iv.result
          (rw c.next-id.ensures.value at it.follows) c.jump.new.self c.ask.new.sa c.ask.result (rw c.next-id.ensures.value at c.jump.ensures) (rw c.next-id.ensures.value at c.ask.ensures.held)
          c.args.self.now c.self.view_is c.args.room c.in-Ok.iv c.in-Ok.is sends;
      asked = it.asked;
      held = it.held;
    }

pub returns-in-Err-clause-asks : goal.returns-in-Err-clause-asks
returns-in-Err-clause-asks g c =
    let h = c.self.inside in
    let it = c.ready_with_iv.ensures.calls in
    record {
      calls = it.calls;
      follows = asks-stopped h.sa h.epoch h.esp_out h.esp_in h.iv h.ask h.answer h.outbound h.inbound h.ike h.attempt c.self.invariant c.ready_with_iv.new.horizon c.ready_with_iv.new.iv it.calls c.ready_with_iv.result
          (rw c.next-id.ensures.value at it.follows) c.args.self.now c.self.view_is c.args.room c.quiet.result c.in-Err.stop c.in-Err.is (search rules);
      asked = it.asked;
      held = it.held;
    }
