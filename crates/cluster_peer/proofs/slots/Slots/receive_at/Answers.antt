-- A packet is received by the association at its place.
use Rattle.std.proofs.Common.{◌≡◌, Some, ap, sym, ◌∙◌, map, refl}
use Rattle.ha_base.specs.declared.esp_outcomes.EspDrop.TheVariants as drop
use Rattle.turn_rules.specs.Slots.{first_slot, receives_at, slot_after}
use Rattle.turn_rules.specs.Tasks as task
use Rattle.cluster_peer.specs.Slots.{IsFirstSlot, Slotted}
use Rattle.cluster_peer.proofs.SlotLaws.{distinct-set, dropped-kept, kept_all, packet-after}
use Rattle.cluster_peer.proofs.SlotLemmas.{first_at}
use Rattle.cluster_peer.proofs.slots.Slots.receive_at.Goals as goal

pub returns-in-Some-clause-receives : goal.returns-in-Some-clause-receives
returns-in-Some-clause-receives c =
    let items = c.self.inside.items.items in
    let slot = c.index_mut-association.result.now in
    let test = receives_at c.args.spi in
    let place : IsFirstSlot test c.in-Some.place items = rw c.deref.ensures.value at c.in-Some.ensures in
    let old : items ≡ c.args.self.now.slots = ap (λ (v : Slotted). v.slots) c.self.view_is in
    let found : first_slot test c.args.self.now.slots ≡ Some slot = ap (first_slot test) (sym old) ∙ first_at test c.in-Some.place items slot place c.index_mut-association.ensures.value in
    rw found c.receive.ensures.receives

pub returns-in-Some-clause-after : goal.returns-in-Some-clause-after
returns-in-Some-clause-after c = λ now step worded quiet.
    let items = c.self.inside.items.items in
    let place : IsFirstSlot (receives_at c.args.spi) c.in-Some.place items = rw c.deref.ensures.value at c.in-Some.ensures in
    let old : items ≡ c.args.self.now.slots = ap (λ (v : Slotted). v.slots) c.self.view_is in
    packet-after now c.receive.result c.receive.new.bytes step worded quiet c.in-Some.place items c.index_mut-association.result.now c.receive.new.self place.within
    c.index_mut-association.ensures.value c.self.invariant c.receive.ensures.noted c.args.bytes.now c.receive.ensures.receives
    ∙ ap (λ slots. map (slot_after now task.Receive step) slots) old

pub returns-in-None-clause-after : goal.returns-in-None-clause-after
returns-in-None-clause-after c = λ now step worded quiet. kept_all (slot_after now task.Receive step) c.args.self.now.slots (dropped-kept now _ c.args.bytes.now step worded quiet drop.WrongSpi refl)

pub invariant_of-self : goal.invariant_of-self
invariant_of-self c =
    let items = c.self.inside.items.items in
    let place : IsFirstSlot (receives_at c.args.spi) c.in-Some.place items = rw c.deref.ensures.value at c.in-Some.ensures in
    distinct-set c.in-Some.place items c.index_mut-association.result.now c.receive.new.self place.within c.index_mut-association.ensures.value c.receive.ensures.sa c.self.invariant
