use Rattle.std.proofs.Common.{◌∙◌, set, sym, ap, arith}
use Rattle.std.proofs.lemmas.List.Edits.{map_over_more}
use Rattle.ike_window.specs.Slots.{from_on, messages_from}
use Rattle.ike_window.proofs.Rings.{mapped_all, moved_messages, moved_ring}
use Rattle.ike_window.proofs.ring.Ring.move_to.Goals as goal

pub loop-slot-preserved : goal.loop-slot-preserved
loop-slot-preserved g c =
    ap (set c.loop-slot.slot-items c.loop-slot.slot-index) (c.drop_below.ensures ∙ ap (from_on c.args.first) (sym c.slot-item.is))
    ∙ map_over_more (from_on c.args.first) c.self.inside.slots c.loop-slot.slot-items c.loop-slot.slot-index c.slot-item.result
    (omega (arith, c.loop-slot-test.true, c.self.told)) c.loop-slot.invariant c.slot-item.is

pub invariant_of-self : goal.invariant_of-self
invariant_of-self g c = (
  c.self.invariant.0,
  rw (mapped_all (from_on c.args.first) c.self.inside.slots c.loop-slot.slot-items c.loop-slot.slot-index
      (omega (arith, c.loop-slot-test.false, c.self.told)) c.loop-slot.invariant)
      (moved_ring c.self.inside.first c.args.first g.row.N c.self.inside.slots c.self.invariant.0 (sym c.self.told) c.self.invariant.1
      (rw (← c.self.view_is) at c.requires)),
)

pub returns : goal.returns
returns g c =
    ap (λ slots. record { first = c.args.first; kept = messages_from slots g.row.N c.args.first })
    (mapped_all (from_on c.args.first) c.self.inside.slots c.loop-slot.slot-items c.loop-slot.slot-index
    (omega (arith, c.loop-slot-test.false, c.self.told)) c.loop-slot.invariant)
    ∙ rw (← c.self.view_is) (ap (λ kept. record { first = c.args.first; kept = kept })
    (moved_messages c.self.inside.first c.args.first g.row.N c.self.inside.slots c.self.invariant.0 (sym c.self.told) c.self.invariant.1
    (rw (← c.self.view_is) at c.requires)))
