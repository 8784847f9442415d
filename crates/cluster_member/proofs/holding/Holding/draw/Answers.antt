-- The next number is drawn.
use Rattle.std.proofs.Common.{rules}
use Rattle.events.specs.declared.verdict.Verdict.TheVariants as out
use Rattle.keeper_book.specs.Counters.{five_at}
use Rattle.keeper_book.specs.declared.counters.Counter.TheVariants as counter
use Rattle.turn_rules.specs.Draws.{refusal_of_stop}
use Rattle.turn_rules.specs.Held.{Held}
use Rattle.turn_rules.specs.Steps.{Says}
use Rattle.cluster_member.proofs.Advancing.{draws-are}
use Rattle.cluster_member.proofs.Sending.{number-stopped, number-used}
use Rattle.cluster_member.proofs.holding.Holding.draw.Goals as goal

pub returns-in-Ok-clause-draws : goal.returns-in-Ok-clause-draws
returns-in-Ok-clause-draws g c =
    let h = c.self.inside in
    let it = c.send_number.ensures.calls in
    let step = c.quiet.result in
    let says : Says (out.Number h.esp_out.next) step = search rules in
    record {
      calls = it.calls;
      follows = draws-are c.args.self.now _ it.calls step
          (number-used h.sa h.epoch h.esp_out h.esp_in h.iv h.ask h.answer h.outbound h.inbound h.ike h.attempt c.self.invariant c.send_number.new.self it.calls c.send_number.result step
          c.args.self.now c.self.view_is (λ (held : Held). Says (out.Number (five_at held.nexts counter.EspOut)) step) it.follows c.in-Ok.number c.in-Ok.is says);
      asked = it.asked;
      held = it.held;
    }

pub returns-in-Err-clause-draws : goal.returns-in-Err-clause-draws
returns-in-Err-clause-draws g c =
    let h = c.self.inside in
    let it = c.send_number.ensures.calls in
    let step = c.quiet-in-Err.result in
    let says : Says (out.Refused (refusal_of_stop c.in-Err.stop)) step = search rules in
    record {
      calls = it.calls;
      follows = draws-are c.args.self.now _ it.calls step
          (number-stopped h.sa h.epoch h.esp_out h.esp_in h.iv h.ask h.answer h.outbound h.inbound h.ike h.attempt c.self.invariant c.send_number.new.self it.calls c.send_number.result step
          c.args.self.now c.self.view_is (λ (held : Held). Says (out.Number (five_at held.nexts counter.EspOut)) step) it.follows c.in-Err.stop c.in-Err.is says);
      asked = it.asked;
      held = it.held;
    }
