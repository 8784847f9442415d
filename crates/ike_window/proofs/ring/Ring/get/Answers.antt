use Rattle.std.proofs.Common.{◌∙◌, sym, ap}
use Rattle.ike_window.specs.Kept.{kept_octets}
use Rattle.ike_window.proofs.Slots.{match_same, octets_found, octets_ring}
use Rattle.ike_window.proofs.ring.Ring.get.Goals as goal

pub returns : goal.returns
returns g c =
    match_same _ _ _ _
    (ap (λ ring. kept_octets c.args.id ring.kept) (sym c.self.view_is)
    ∙ octets_ring c.self.inside.first g.row.N c.self.inside.slots c.args.id c.self.invariant.1 (sym c.self.told)
    ∙ octets_found c.self.inside.slots g.row.N c.args.id c.index-self-id.result c.self.invariant.0 (sym c.self.told))
    c.octets_in_slot.ensures
