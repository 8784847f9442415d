-- A request is sent again by the association at its place.
use Rattle.std.proofs.Common.{◌≡◌, Some, MatchOption, IfOk, ap, sym, ◌∙◌, subst}
use Rattle.events.specs.declared.verdict.Refusal.TheVariants as refusal
use Rattle.events.specs.declared.verdict.Verdict.TheVariants as out
use Rattle.turn_rules.specs.Messages.{Resends}
use Rattle.turn_rules.specs.PeerMessages.{slot_ike}
use Rattle.turn_rules.specs.Slots.{first_slot, has_spir}
use Rattle.turn_rules.specs.Steps.{Says}
use Rattle.cluster_peer.specs.Slots.{IsFirstSlot, Slotted}
use Rattle.cluster_peer.proofs.SlotLemmas.{first_at}
use Rattle.cluster_peer.proofs.slots.Slots.again.Goals as goal

pub returns-in-Some : goal.returns-in-Some
returns-in-Some c =
    let items = c.self.inside.items.items in
    let slot = c.index.result.now in
    let test = has_spir c.args.spir in
    let place : IsFirstSlot test c.in-Some.place items = rw c.deref.ensures.value at c.in-Some.ensures in
    let found : first_slot test c.args.self.now.slots ≡ Some slot = ap (λ (v : Slotted). first_slot test v.slots) (sym c.self.view_is) ∙ first_at test c.in-Some.place items slot place c.index.ensures in
    subst (λ x. IfOk c.again.result (λ step. MatchOption x (Says (out.Refused refusal.Unknown) step) (λ s. Resends c.args.id (slot_ike s) step))) (sym found) c.again.ensures
