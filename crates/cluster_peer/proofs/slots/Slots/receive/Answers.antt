-- A packet that is long enough has an SPI.
use Rattle.std.proofs.Common.{MatchOption, refl, arith, subst}
use Rattle.ha_base.specs.declared.esp_outcomes.EspDrop.TheVariants as drop
use Rattle.turn_rules.specs.Packets.{Drops}
use Rattle.turn_rules.specs.Slots.{SlotReceives, first_slot, receives_at, slot_after}
use Rattle.turn_rules.specs.Tasks as task
use Rattle.cluster_peer.proofs.SlotLaws.{dropped-kept, kept_all}
use Rattle.cluster_peer.proofs.slots.Slots.receive.Goals as goal

pub returns-in-Some-clause-receives : goal.returns-in-Some-clause-receives
returns-in-Some-clause-receives c = record {
  short = λ l. absurd (omega (arith, l, c.in-Some.ensures.0));
  long = λ l. subst (λ spi. MatchOption (first_slot (receives_at spi) c.args.self.now.slots)
      (Drops drop.WrongSpi c.args.bytes.now c.receive_at.result c.receive_at.new.bytes)
      (λ slot. SlotReceives slot c.args.bytes.now c.receive_at.result c.receive_at.new.bytes))
      c.in-Some.ensures.1 c.receive_at.ensures.receives;
}

pub returns-in-None-clause-after : goal.returns-in-None-clause-after
returns-in-None-clause-after c = λ now step worded quiet. kept_all (slot_after now task.Receive step) c.args.self.now.slots (dropped-kept now _ c.args.bytes.now step worded quiet drop.Short refl)
