use Rattle.std.proofs.Common.{ap}
use Rattle.ike_window.proofs.Rings.{empty_ring, no_messages}
use Rattle.ike_window.proofs.ring.Ring.of.Goals as goal

pub invariant_of-result : goal.invariant_of-result
invariant_of-result g c = (c.requires.some, empty_ring c.args.first g.row.N c.args.slots c.requires.none)

pub returns : goal.returns
returns g c = ap (λ kept. record { first = c.args.first; kept = kept }) (no_messages g.row.N c.args.slots g.row.N c.args.first c.requires.none)
