-- A request is sent by the association at its place.
use Rattle.std.proofs.Common.{◌≡◌, Some, ap, sym, ◌∙◌, map}
use Rattle.events.specs.declared.verdict.Refusal.TheVariants as refusal
use Rattle.turn_rules.specs.Slots.{first_slot, has_spir, slot_after}
use Rattle.turn_rules.specs.Tasks as task
use Rattle.cluster_peer.specs.Slots.{IsFirstSlot, Slotted}
use Rattle.cluster_peer.proofs.MessageLaws.{asked-after}
use Rattle.cluster_peer.proofs.SlotLaws.{distinct-set, kept_all, refused-kept}
use Rattle.cluster_peer.proofs.SlotLemmas.{first_at, its-spir}
use Rattle.cluster_peer.proofs.slots.Slots.ask.Goals as goal

pub returns-in-Some-clause-asks : goal.returns-in-Some-clause-asks
returns-in-Some-clause-asks c =
    let items = c.self.inside.items.items in
    let slot = c.index_mut-association.result.now in
    let test = has_spir c.args.spir in
    let place : IsFirstSlot test c.in-Some.place items = rw c.deref.ensures.value at c.in-Some.ensures in
    let old : items ≡ c.args.self.now.slots = ap (λ (v : Slotted). v.slots) c.self.view_is in
    let found : first_slot test c.args.self.now.slots ≡ Some slot = ap (first_slot test) (sym old) ∙ first_at test c.in-Some.place items slot place c.index_mut-association.ensures.value in
    rw found c.ask.ensures.asks

pub returns-in-Some-clause-after : goal.returns-in-Some-clause-after
returns-in-Some-clause-after c = λ now.
    let items = c.self.inside.items.items in
    let slot = c.index_mut-association.result.now in
    let place : IsFirstSlot (has_spir c.args.spir) c.in-Some.place items = rw c.deref.ensures.value at c.in-Some.ensures in
    let old : items ≡ c.args.self.now.slots = ap (λ (v : Slotted). v.slots) c.self.view_is in
    let its = its-spir c.args.spir slot (place.here slot c.index_mut-association.ensures.value) in
    asked-after now c.ask.result c.in-Some.place items slot c.ask.new.self place.within c.index_mut-association.ensures.value c.self.invariant
    c.args.spir c.args.room its c.ask.ensures.asks (c.ask.ensures.after now)
    ∙ ap (λ slots. map (slot_after now (task.Ask c.args.spir c.args.room) c.ask.result) slots) old

pub returns-in-None-clause-after : goal.returns-in-None-clause-after
returns-in-None-clause-after c = λ now. kept_all (slot_after now (task.Ask c.args.spir c.args.room) c.quiet.result) c.args.self.now.slots
    (refused-kept now (task.Ask c.args.spir c.args.room) c.quiet.result refusal.Unknown
    (record { said = c.quiet.ensures.verdict; quiet = record { served = c.quiet.ensures.served; seals = c.quiet.ensures.seals; gives = c.quiet.ensures.gives } }))

pub invariant_of-self : goal.invariant_of-self
invariant_of-self c =
    let items = c.self.inside.items.items in
    let place : IsFirstSlot (has_spir c.args.spir) c.in-Some.place items = rw c.deref.ensures.value at c.in-Some.ensures in
    distinct-set c.in-Some.place items c.index_mut-association.result.now c.ask.new.self place.within c.index_mut-association.ensures.value c.ask.ensures.sa c.self.invariant
