-- A payload is sent under the next number.
use Rattle.std.proofs.Common.{rules, ap, subst}
use Rattle.events.specs.declared.verdict.Verdict.TheVariants as out
use Rattle.keeper_book.specs.Counters.{five_at}
use Rattle.keeper_book.specs.declared.counters.Counter.TheVariants as counter
use Rattle.spend_once.specs.Lot.{Drawn}
use Rattle.turn_rules.specs.Draws.{refusal_of_stop}
use Rattle.turn_rules.specs.Held.{Held}
use Rattle.turn_rules.specs.MemberPackets.{outbound_of}
use Rattle.turn_rules.specs.Packets.{Outbound, SendsEsp}
use Rattle.turn_rules.specs.Steps.{Says}
use Rattle.cluster_member.proofs.Advancing.{sends-are}
use Rattle.cluster_member.proofs.Sending.{held_now, number-stopped, number-used, outbound-is}
use Rattle.cluster_member.proofs.holding.Holding.send.Goals as goal

pub returns-in-Ok-clause-sends : goal.returns-in-Ok-clause-sends
returns-in-Ok-clause-sends g c =
    let h = c.self.inside in
    let it = c.send_number.ensures.calls in
    let payload = c.args.payload.now in
    let step = c.send.result in
    let by_it : SendsEsp h.outbound h.esp_out.next payload step = subst (λ n. SendsEsp h.outbound n payload step) (ap (λ (n : Drawn). n.value) c.in-Ok.ensures.number) c.send.ensures in
    let sent : SendsEsp (outbound_of (held_now h.sa h.epoch h.esp_out h.esp_in h.iv h.ask h.answer h.outbound h.inbound h.ike h.attempt c.self.invariant)) h.esp_out.next payload step =
    subst (λ (o : Outbound). SendsEsp o h.esp_out.next payload step) (outbound-is h.sa h.epoch h.esp_out h.esp_in h.iv h.ask h.answer h.outbound h.inbound h.ike h.attempt c.self.invariant) by_it in
    record {
      calls = it.calls;
      follows = sends-are c.args.self.now _ it.calls step payload
          (number-used h.sa h.epoch h.esp_out h.esp_in h.iv h.ask h.answer h.outbound h.inbound h.ike h.attempt c.self.invariant c.send_number.new.self it.calls c.send_number.result step
          c.args.self.now c.self.view_is (λ (held : Held). SendsEsp (outbound_of held) (five_at held.nexts counter.EspOut) payload step) it.follows c.in-Ok.number c.in-Ok.is sent);
      asked = it.asked;
      held = it.held;
    }

pub returns-in-Err-clause-sends : goal.returns-in-Err-clause-sends
returns-in-Err-clause-sends g c =
    let h = c.self.inside in
    let it = c.send_number.ensures.calls in
    let payload = c.args.payload.now in
    let step = c.quiet.result in
    let says : Says (out.Refused (refusal_of_stop c.in-Err.stop)) step = search rules in
    record {
      calls = it.calls;
      follows = sends-are c.args.self.now _ it.calls step payload
          (number-stopped h.sa h.epoch h.esp_out h.esp_in h.iv h.ask h.answer h.outbound h.inbound h.ike h.attempt c.self.invariant c.send_number.new.self it.calls c.send_number.result step
          c.args.self.now c.self.view_is (λ (held : Held). SendsEsp (outbound_of held) (five_at held.nexts counter.EspOut) payload step) it.follows c.in-Err.stop c.in-Err.is says);
      asked = it.asked;
      held = it.held;
    }
