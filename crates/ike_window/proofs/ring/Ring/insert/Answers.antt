use Rattle.std.proofs.Common.{sym, ap}
use Rattle.ike_window.specs.Kept.{KeptMessage}
use Rattle.ike_window.proofs.Rings.{inserted_messages}
use Rattle.ike_window.proofs.ring.Ring.insert.Goals as goal

pub returns : goal.returns
returns g c =
    let message : KeptMessage = record { id = c.args.id; octets = c.args.octets.octets } in
    rw (← c.self.view_is)
    (ap (λ kept. record { first = c.self.inside.first; kept = kept })
    (inserted_messages c.self.inside.first g.row.N c.self.inside.slots message c.self.invariant.0 (sym c.self.told) c.self.invariant.1
    (rw (← c.self.view_is) at c.requires.from) (rw (← c.self.view_is) at c.requires.within) (rw (← c.self.view_is) at c.requires.free)))
