use Rattle.std.proofs.Common.{◌∙◌, sym, ap}
use Rattle.ike_window.specs.Kept.{message_ids_of, has_message_id}
use Rattle.ike_window.proofs.Rings.{in_ring, nothing_removed, removed_messages}
use Rattle.ike_window.proofs.ring.Ring.remove.Goals as goal

pub returns-then-not-has : goal.returns-then-not-has
returns-then-not-has g c =
    ap (λ kept. record { first = c.args.self.now.first; kept = kept }) (nothing_removed c.args.id c.args.self.now.kept (sym c.has.ensures ∙ c.if-not-has.true))

pub returns : goal.returns
returns g c =
    let within = in_ring c.self.inside.first g.row.N c.self.inside.slots c.args.id (sym c.self.told) c.self.invariant.1
    (ap (λ ring. has_message_id (message_ids_of ring.kept) c.args.id) c.self.view_is ∙ sym c.has.ensures ∙ c.if-not-has.false) in
    rw (← c.self.view_is)
    (ap (λ kept. record { first = c.self.inside.first; kept = kept })
    (removed_messages c.self.inside.first g.row.N c.self.inside.slots c.args.id c.self.invariant.0 (sym c.self.told) c.self.invariant.1 within.0 within.1))
