-- The number of a packet is noted, once it is ready.
use Rattle.std.proofs.Common.{◌≡◌, Ok, rules}
use Rattle.events.specs.declared.verdict.EspVerdict.TheVariants as esp
use Rattle.keeper_book.specs.declared.counters.Counter.TheVariants as counter
use Rattle.turn_rules.specs.Draws.{counter_name, refusal_of_stop}
use Rattle.cluster_member.proofs.Advancing.{notes-are}
use Rattle.cluster_member.proofs.Sending.{packet-noted, packet-stopped}
use Rattle.cluster_member.proofs.holding.Holding.take.Goals as goal

pub returns-in-Ok-clause-takes : goal.returns-in-Ok-clause-takes
returns-in-Ok-clause-takes g c =
    let h = c.self.inside in
    let it = c.admit.ensures.calls in
    let packet = c.args.packet in
    let said : esp.Accepted c.counter.result packet ≡ esp.Accepted (counter_name h.sa counter.EspIn) packet = search rules in
    record {
      calls = it.calls;
      follows = notes-are c.args.self.now _ it.calls (esp.Accepted c.counter.result packet) (Ok packet)
          (packet-noted h.sa h.epoch h.esp_out h.esp_in h.iv h.ask h.answer h.outbound h.inbound h.ike h.attempt c.self.invariant packet c.admit.new.self it.calls c.admit.result
          c.args.self.now c.self.view_is it.follows (esp.Accepted c.counter.result packet) (search rules) said c.note.new.self.window (search rules));
      asked = it.asked;
      held = it.held;
    }

pub returns-in-Err-clause-takes : goal.returns-in-Err-clause-takes
returns-in-Err-clause-takes g c =
    let h = c.self.inside in
    let it = c.admit.ensures.calls in
    let packet = c.args.packet in
    let said : esp.Refused c.of_stop.result ≡ esp.Refused (refusal_of_stop c.in-Err.stop) = search rules in
    record {
      calls = it.calls;
      follows = notes-are c.args.self.now _ it.calls (esp.Refused c.of_stop.result) (Ok packet)
          (packet-stopped h.sa h.epoch h.esp_out h.esp_in h.iv h.ask h.answer h.outbound h.inbound h.ike h.attempt c.self.invariant packet c.admit.new.self it.calls c.admit.result
          c.args.self.now c.self.view_is it.follows (esp.Refused c.of_stop.result) c.in-Err.stop c.in-Err.is said);
      asked = it.asked;
      held = it.held;
    }
