-- What the response to a request to synchronise makes of the holding.
use Rattle.std.proofs.Common.{Err, rules, subst}
use Rattle.events.specs.declared.verdict.Verdict.TheVariants as out
use Rattle.keeper_book.specs.declared.counters.Counter.TheVariants as counter
use Rattle.sync_exchange.specs.Answers.{IsMemberAnswer}
use Rattle.turn_rules.specs.Draws.{counter_name}
use Rattle.turn_rules.specs.Steps.{Says}
use Rattle.cluster_member.proofs.SyncTakes.{holding-synced, takes-other, takes-synced}
use Rattle.cluster_member.proofs.holding.Holding.take_awaited.Goals as goal

pub invariant_of-self : goal.invariant_of-self
invariant_of-self c =
    let h = c.self.inside in
    let took = c.in-Ok-take_sync in
    holding-synced h.sa h.epoch h.esp_out h.esp_in h.iv h.ask h.answer h.outbound h.inbound h.ike c.self.invariant
    c.sync_nonce.result c.in-Ok.payloads took.next took.floor took.ensures.answer c.jump.new.self c.take_sync.new.self c.jump.ensures took.ensures.synced

pub returns-in-Ok-take_sync-clause-takes : goal.returns-in-Ok-take_sync-clause-takes
returns-in-Ok-take_sync-clause-takes c =
    let h = c.self.inside in
    let took = c.in-Ok-take_sync in
    let says : Says (out.Synced (counter_name h.sa counter.Answer) took.next took.floor) c.quiet.result = search rules in
    (takes-synced h.sa h.epoch h.esp_out h.esp_in h.iv h.ask h.answer h.outbound h.inbound h.ike c.self.invariant
    c.sync_nonce.result c.in-Ok.payloads took.next took.floor took.ensures.answer c.jump.new.self c.take_sync.new.self c.jump.ensures took.ensures.synced
    h.attempt c.args.self.now c.self.view_is c.args.fresh.now c.args.id c.args.response.now c.quiet.result c.sync_nonce.ensures c.in-Ok.is says).0

pub returns-in-Ok-take_sync-clause-after : goal.returns-in-Ok-take_sync-clause-after
returns-in-Ok-take_sync-clause-after c =
    let h = c.self.inside in
    let took = c.in-Ok-take_sync in
    let says : Says (out.Synced (counter_name h.sa counter.Answer) took.next took.floor) c.quiet.result = search rules in
    (takes-synced h.sa h.epoch h.esp_out h.esp_in h.iv h.ask h.answer h.outbound h.inbound h.ike c.self.invariant
    c.sync_nonce.result c.in-Ok.payloads took.next took.floor took.ensures.answer c.jump.new.self c.take_sync.new.self c.jump.ensures took.ensures.synced
    h.attempt c.args.self.now c.self.view_is c.args.fresh.now c.args.id c.args.response.now c.quiet.result c.sync_nonce.ensures c.in-Ok.is says).1

pub returns-in-Err-Nonce-clause-takes : goal.returns-in-Err-Nonce-clause-takes
returns-in-Err-Nonce-clause-takes c =
    let h = c.self.inside in
    let says = c.drop_message.ensures in
    let refuses = subst (λ e. IsMemberAnswer h.ike.next h.ike.answered.floor c.sync_nonce.result c.in-Ok.payloads (Err e)) c.in-Err-Nonce.field-0-is
    c.in-Err-Nonce.ensures.answer in
    (takes-other h.sa h.epoch h.esp_out h.esp_in h.iv h.ask h.answer h.outbound h.inbound h.ike h.attempt c.self.invariant c.args.self.now c.self.view_is
    c.args.fresh.now c.args.id c.sync_nonce.result c.args.response.now c.drop_message.result c.in-Ok.payloads c.sync_nonce.ensures c.in-Ok.is says
    refuses c.take_sync.new.self c.in-Err-Nonce.ensures.dropped).0

pub returns-in-Err-Nonce-clause-after : goal.returns-in-Err-Nonce-clause-after
returns-in-Err-Nonce-clause-after c =
    let h = c.self.inside in
    let says = c.drop_message.ensures in
    let refuses = subst (λ e. IsMemberAnswer h.ike.next h.ike.answered.floor c.sync_nonce.result c.in-Ok.payloads (Err e)) c.in-Err-Nonce.field-0-is
    c.in-Err-Nonce.ensures.answer in
    (takes-other h.sa h.epoch h.esp_out h.esp_in h.iv h.ask h.answer h.outbound h.inbound h.ike h.attempt c.self.invariant c.args.self.now c.self.view_is
    c.args.fresh.now c.args.id c.sync_nonce.result c.args.response.now c.drop_message.result c.in-Ok.payloads c.sync_nonce.ensures c.in-Ok.is says
    refuses c.take_sync.new.self c.in-Err-Nonce.ensures.dropped).1
