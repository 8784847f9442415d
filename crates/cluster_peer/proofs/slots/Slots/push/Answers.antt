-- An association that is admitted differs from the others.
use Rattle.std.proofs.Common.{◌≡◌, [], ◌∷◌, ◌++◌, true, subst, sym}
use Rattle.turn_rules.specs.Peers.{AreDistinct}
use Rattle.turn_rules.specs.Slots.{Slot, admits, entered_slot, records}
use Rattle.cluster_peer.proofs.SlotLaws.{distinct-more}
use Rattle.cluster_peer.proofs.slots.Slots.push.Goals as goal
use Rattle.cluster_peer.specs.Slots.{Slotted}

pub invariant_of-self : goal.invariant_of-self
invariant_of-self c =
    let items = c.self.inside.items.items in
    let admitted : admits items c.args.sa ≡ true = subst (λ (v : Slotted). admits v.slots c.args.sa ≡ true) (sym c.self.view_is) c.requires.admitted in
    let value : c.new.result ≡ entered_slot c.args.window c.args.sa = c.new.ensures in
    subst (λ slots. AreDistinct (records slots)) (sym c.push_reserved.ensures.items)
    (subst (λ (slot : Slot). AreDistinct (records (items ++ slot ∷ []))) (sym value) (distinct-more items c.args.window c.args.sa admitted c.self.invariant))
