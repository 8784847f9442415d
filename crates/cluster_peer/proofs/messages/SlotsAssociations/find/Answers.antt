-- What is held of an association is found at its place.
use Rattle.std.proofs.Common.{◌≡◌, Some, ap, sym, ◌∙◌}
use Rattle.std.specs.Option.{option_map}
use Rattle.turn_rules.specs.PeerMessages.{has_spis, slot_ike}
use Rattle.turn_rules.specs.Slots.{first_slot}
use Rattle.cluster_peer.specs.Slots.{IsFirstSlot, Slotted}
use Rattle.cluster_peer.proofs.SlotLemmas.{first_at}
use Rattle.cluster_peer.proofs.messages.SlotsAssociations.find.Goals as goal

pub returns-in-Some : goal.returns-in-Some
returns-in-Some c =
    let items = c.self.inside.items.items in
    let slot = c.index.result.now in
    let test = has_spis c.args.spii c.args.spir in
    let place : IsFirstSlot test c.in-Some.place items = rw c.deref.ensures.value at c.in-Some.ensures in
    let found : first_slot test c.args.self.now.slots ≡ Some slot = ap (λ (v : Slotted). first_slot test v.slots) (sym c.self.view_is) ∙ first_at test c.in-Some.place items slot place c.index.ensures in
    ap (option_map slot_ike) found ∙ ap Some (sym c.ike.ensures)
