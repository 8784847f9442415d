-- A request to synchronise is sent under the Message ID that it announces and the next IV.
use Rattle.std.proofs.Common.{◌≡◌, max, Some, rules, ap, sym, ◌∙◌, subst}
use Rattle.ike_sas.specs.Held.{with_sync_begun}
use Rattle.spend_once.specs.Lot.{Drawn}
use Rattle.turn_rules.specs.MemberMessages.{sync_id}
use Rattle.turn_rules.specs.Tasks as task
use Rattle.cluster_member.proofs.Asked.{holding-stopped, holding_of}
use Rattle.cluster_member.proofs.SyncHoldings.{before, holding-announced, syncs-given, syncs-stopped}
use Rattle.cluster_member.proofs.holding.Holding.send_sync.Goals as goal
use Rattle.cluster_member.specs.Advances.{Advances}
use Rattle.cluster_member.specs.Numbers.{ReadiesBoth}
use Rattle.cluster_member.specs.Synchronising.{Announces, SendsPrepared}

pub invariant_of-self : goal.invariant_of-self
invariant_of-self g c =
    let h = c.self.inside in
    let it = c.ready_with_iv.ensures.calls in
    let one = c.ready_with_iv.new.horizon in
    let is : c.sync_id-id.result ≡ sync_id (before h.sa h.epoch h.esp_out h.esp_in h.iv h.ask h.answer h.outbound h.inbound h.ike h.attempt
    c.self.invariant) = c.sync_id-id.ensures.value ∙ ap sync_id (sym c.self.view_is) in
    holding-announced h.sa h.epoch h.esp_out h.esp_in h.iv h.ask h.answer h.outbound h.inbound h.ike h.attempt c.self.invariant one
    c.ready_with_iv.new.iv it.calls c.ready_with_iv.result
    (subst (λ n. ReadiesBoth h.ask n h.iv it.calls c.ready_with_iv.result one c.ready_with_iv.new.iv) is it.follows) c.jump.new.self c.announce.new.ike
    (subst (λ n. c.jump.new.self ≡ record one { next = max one.next n }) is c.jump.ensures)
    (subst (λ n. c.announce.new.ike ≡ with_sync_begun n h.ike) is c.announce.ensures.held)
    c.ready_with_iv.ensures.same c.ready_with_iv.ensures.same_iv

pub invariant_of-self-in-Err : goal.invariant_of-self-in-Err
invariant_of-self-in-Err g c =
    let h = c.self.inside in
    let it = c.ready_with_iv.ensures.calls in
    holding-stopped h.sa h.epoch h.esp_out h.esp_in h.iv h.ask h.answer h.outbound h.inbound h.ike h.attempt c.self.invariant c.sync_id-id.result
    c.ready_with_iv.new.horizon c.ready_with_iv.new.iv
    it.calls c.ready_with_iv.result it.follows c.ready_with_iv.ensures.same c.ready_with_iv.ensures.same_iv

pub returns-in-Ok-clause-syncs : goal.returns-in-Ok-clause-syncs
returns-in-Ok-clause-syncs g c =
    let h = c.self.inside in
    let it = c.ready_with_iv.ensures.calls in
    let one = c.ready_with_iv.new.horizon in
    let step = c.announce.result in
    let is : c.sync_id-id.result ≡ sync_id (before h.sa h.epoch h.esp_out h.esp_in h.iv h.ask h.answer h.outbound h.inbound h.ike h.attempt
    c.self.invariant) = c.sync_id-id.ensures.value ∙ ap sync_id (sym c.self.view_is) in
    record {
      calls = it.calls;
      follows = subst (λ n. SendsPrepared c.args.draft.payloads c.args.self.now it.calls step × Advances c.args.self.now
          (task.Sync c.args.self.now.sa.spir) it.calls step
          (holding_of h.sa h.epoch h.esp_out h.esp_in h.iv h.ask h.answer h.outbound h.inbound h.ike (Some n) c.self.invariant c.ready_with_iv.new.iv
          c.jump.new.self c.announce.new.ike)) (sym is)
          (syncs-given h.sa h.epoch h.esp_out h.esp_in h.iv h.ask h.answer h.outbound h.inbound h.ike h.attempt c.self.invariant one
          c.ready_with_iv.new.iv it.calls c.ready_with_iv.result
          (subst (λ n. ReadiesBoth h.ask n h.iv it.calls c.ready_with_iv.result one c.ready_with_iv.new.iv) is it.follows) c.jump.new.self c.announce.new.ike
          (subst (λ n. c.jump.new.self ≡ record one { next = max one.next n }) is c.jump.ensures)
          (subst (λ n. c.announce.new.ike ≡ with_sync_begun n h.ike) is c.announce.ensures.held)
          c.args.self.now c.self.view_is c.args.draft.payloads step c.in-Ok.iv c.in-Ok.is
          (subst (λ n. Announces h.ike n h.iv.next c.args.draft.payloads step) is
          (subst (λ k. Announces h.ike c.sync_id-id.result k c.args.draft.payloads step) (ap (λ (n : Drawn). n.value) c.in-Ok.ensures.number)
          c.announce.ensures.announces)));
      asked = it.asked;
      held = it.held;
    }

pub returns-in-Err-clause-syncs : goal.returns-in-Err-clause-syncs
returns-in-Err-clause-syncs g c =
    let h = c.self.inside in
    let it = c.ready_with_iv.ensures.calls in
    let one = c.ready_with_iv.new.horizon in
    let is : c.sync_id-id.result ≡ sync_id (before h.sa h.epoch h.esp_out h.esp_in h.iv h.ask h.answer h.outbound h.inbound h.ike h.attempt
    c.self.invariant) = c.sync_id-id.ensures.value ∙ ap sync_id (sym c.self.view_is) in
    record {
      calls = it.calls;
      follows = syncs-stopped h.sa h.epoch h.esp_out h.esp_in h.iv h.ask h.answer h.outbound h.inbound h.ike h.attempt c.self.invariant one
          c.ready_with_iv.new.iv it.calls c.ready_with_iv.result
          (subst (λ n. ReadiesBoth h.ask n h.iv it.calls c.ready_with_iv.result one c.ready_with_iv.new.iv) is it.follows) c.args.self.now
          c.self.view_is c.args.draft.payloads c.quiet.result
          c.in-Err.stop c.in-Err.is (search rules);
      asked = it.asked;
      held = it.held;
    }
