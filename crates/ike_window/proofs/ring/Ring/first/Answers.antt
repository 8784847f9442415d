use Rattle.std.proofs.Common.{sym}
use Rattle.ike_window.proofs.Rings.{below_ring}
use Rattle.ike_window.proofs.Slots.{rise_messages}
use Rattle.ike_window.proofs.ring.Ring.first.Goals as goal

pub returns-clause-rising : goal.returns-clause-rising
returns-clause-rising g c = rw (← c.self.view_is) (rise_messages c.self.inside.slots g.row.N c.self.inside.first)

pub returns-clause-within : goal.returns-clause-within
returns-clause-within g c =
    rw (← c.self.view_is) (below_ring c.self.inside.first g.row.N c.self.inside.slots (sym c.self.told) c.self.invariant.1)
