-- A packet is taken, or is dropped.
use Rattle.std.proofs.Common.{[], Ok, Err, refl, rules}
use Rattle.keeper_book.proofs.Asking.{asks_for_none}
use Rattle.turn_rules.specs.MemberPackets.{inbound_of}
use Rattle.turn_rules.specs.Packets.{OpensEsp}
use Rattle.cluster_member.proofs.Advancing.{notes-are}
use Rattle.cluster_member.proofs.holding.Holding.receive.Goals as goal

pub returns-in-Ok-clause-receives : goal.returns-in-Ok-clause-receives
returns-in-Ok-clause-receives g c =
    let opens : OpensEsp (inbound_of c.args.self.now) c.args.bytes.now (Ok c.in-Ok.packet) c.open.new.bytes = search rules in
    let it = c.take.ensures.takes in
    record {
      calls = it.calls;
      follows = (record { opened = Ok c.in-Ok.packet; opens = opens; takes = it.follows.0 }, it.follows.1 c.open.new.bytes);
      asked = it.asked;
      held = it.held;
    }

pub returns-in-Err-clause-receives : goal.returns-in-Err-clause-receives
returns-in-Err-clause-receives g c =
    let opens : OpensEsp (inbound_of c.args.self.now) c.args.bytes.now (Err c.in-Err.why) c.open.new.bytes = search rules in
    let notes = notes-are c.args.self.now c.args.self.now [] _ (Err c.in-Err.why) (refl, refl, refl) in
    asks_for_none g.K.Keeper c.args.keeper.now (record { opened = Err c.in-Err.why; opens = opens; takes = notes.0 }, notes.1 c.open.new.bytes)
