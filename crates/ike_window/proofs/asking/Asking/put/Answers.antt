use Rattle.std.proofs.Common.{◌≡◌, ◌∙◌, ◌-◌, ℕ, List, filter, nat_le, ap, lit<, arith}
use Rattle.ike_window.specs.Asking.{FitsBeside}
use Rattle.ike_window.specs.Kept.{KeptMessage, message_ids_of, with_kept}
use Rattle.ike_window.specs.Slots.{SlidingRing}
use Rattle.ike_window.proofs.Orders.{all_other}
use Rattle.ike_window.proofs.Putting.{not_yet, nothing_dropped}
use Rattle.ike_window.proofs.Rising.{rise_inserted, with_last}
use Rattle.ike_window.proofs.asking.Asking.put.Goals as goal

-- the ring before the request is kept
moved : (id first : ℕ) (kept : List KeptMessage) (ring : SlidingRing) → FitsBeside id kept → first ≡ id - 7 →
    ring ≡ record { first = first; kept = filter (λ message. nat_le first message.id) kept } → ring ≡ record { first = id - 7; kept = kept }
moved id first kept ring fits at is =
    is
    ∙ ap (λ n. record { first = n; kept = filter (λ message. nat_le n message.id) kept }) at
    ∙ ap (λ ms. record { first = id - 7; kept = ms }) (nothing_dropped id kept fits)

pub insert-requires : goal.insert-requires
insert-requires c =
    rw (moved c.args.id c.saturating_sub.result c.self.inside.ring.kept c.move_to.new.self
    (rw (← c.self.view_is) at c.requires.fits) c.saturating_sub.ensures c.move_to.ensures)
    (lit< tt, (omega arith, (omega arith, not_yet c.args.id c.self.inside.ring.kept (rw (← c.self.view_is) at c.requires.above))))

pub invariant_of-self : goal.invariant_of-self
invariant_of-self c =
    let free = not_yet c.args.id c.self.inside.ring.kept (rw (← c.self.view_is) at c.requires.above) in
    rw c.insert.ensures (rw (moved c.args.id c.saturating_sub.result c.self.inside.ring.kept c.move_to.new.self
    (rw (← c.self.view_is) at c.requires.fits) c.saturating_sub.ensures c.move_to.ensures) (record {
      rising = rise_inserted 0 (record { id = c.args.id; octets = c.args.message.octets }) c.self.inside.ring.kept (omega arith) c.self.invariant.rising
          (all_other (message_ids_of c.self.inside.ring.kept) c.args.id free);
      within = let fits = c.ranges.id.fits in omega arith;
    }))

pub returns : goal.returns
returns c =
    ap (λ ring. ring.kept) c.insert.ensures
    ∙ ap (λ ring. with_kept (record { id = c.args.id; octets = c.args.message.octets }) ring.kept)
    (moved c.args.id c.saturating_sub.result c.self.inside.ring.kept c.move_to.new.self
    (rw (← c.self.view_is) at c.requires.fits) c.saturating_sub.ensures c.move_to.ensures)
    ∙ rw (← c.self.view_is) (with_last (record { id = c.args.id; octets = c.args.message.octets }) c.self.inside.ring.kept
    (rw (← c.self.view_is) at c.requires.above))
