-- The association at its place is closed.
use Rattle.std.proofs.Common.{◌≡◌, Some, ap, sym, ◌∙◌, map}
use Rattle.events.specs.declared.verdict.Refusal.TheVariants as refusal
use Rattle.events.specs.declared.verdict.Verdict.TheVariants as out
use Rattle.turn_rules.specs.Slots.{Slot, first_slot, has_spir, slot_after}
use Rattle.turn_rules.specs.Steps.{Says}
use Rattle.turn_rules.specs.Tasks as task
use Rattle.cluster_peer.specs.Slots.{IsFirstSlot, Slotted}
use Rattle.cluster_peer.proofs.SlotLaws.{closed-after, distinct-set, kept_all, refused-kept}
use Rattle.cluster_peer.proofs.SlotLemmas.{first_at, its-spir}
use Rattle.cluster_peer.proofs.slots.Slots.forget.Goals as goal

pub returns-in-Some-clause-forgets : goal.returns-in-Some-clause-forgets
returns-in-Some-clause-forgets c =
    let items = c.self.inside.items.items in
    let slot = c.index_mut-association.result.now in
    let test = has_spir c.args.spir in
    let place : IsFirstSlot test c.in-Some.place items = rw c.deref.ensures.value at c.in-Some.ensures in
    let old : items ≡ c.args.self.now.slots = ap (λ (v : Slotted). v.slots) c.self.view_is in
    let found : first_slot test c.args.self.now.slots ≡ Some slot = ap (first_slot test) (sym old) ∙ first_at test c.in-Some.place items slot place c.index_mut-association.ensures.value in
    let says : Says out.Forgotten c.quiet.result = record { said = c.quiet.ensures.verdict; quiet = record { served = c.quiet.ensures.served; seals = c.quiet.ensures.seals; gives = c.quiet.ensures.gives } } in
    rw found says

pub returns-in-Some-clause-after : goal.returns-in-Some-clause-after
returns-in-Some-clause-after c = λ now.
    let items = c.self.inside.items.items in
    let slot = c.index_mut-association.result.now in
    let place : IsFirstSlot (has_spir c.args.spir) c.in-Some.place items = rw c.deref.ensures.value at c.in-Some.ensures in
    let old : items ≡ c.args.self.now.slots = ap (λ (v : Slotted). v.slots) c.self.view_is in
    let its = its-spir c.args.spir slot (place.here slot c.index_mut-association.ensures.value) in
    let says : Says out.Forgotten c.quiet.result = record { said = c.quiet.ensures.verdict; quiet = record { served = c.quiet.ensures.served; seals = c.quiet.ensures.seals; gives = c.quiet.ensures.gives } } in
    closed-after now c.args.spir c.quiet.result c.in-Some.place items slot c.forget.new.self place.within c.index_mut-association.ensures.value c.self.invariant
    its says c.forget.ensures
    ∙ ap (λ slots. map (slot_after now (task.Forget c.args.spir) c.quiet.result) slots) old

pub returns-in-None-clause-after : goal.returns-in-None-clause-after
returns-in-None-clause-after c = λ now. kept_all (slot_after now (task.Forget c.args.spir) c.quiet-in-None.result) c.args.self.now.slots
    (refused-kept now (task.Forget c.args.spir) c.quiet-in-None.result refusal.Unknown
    (record { said = c.quiet-in-None.ensures.verdict; quiet = record { served = c.quiet-in-None.ensures.served; seals = c.quiet-in-None.ensures.seals; gives = c.quiet-in-None.ensures.gives } }))

pub invariant_of-self : goal.invariant_of-self
invariant_of-self c =
    let items = c.self.inside.items.items in
    let slot = c.index_mut-association.result.now in
    let place : IsFirstSlot (has_spir c.args.spir) c.in-Some.place items = rw c.deref.ensures.value at c.in-Some.ensures in
    distinct-set c.in-Some.place items slot c.forget.new.self place.within c.index_mut-association.ensures.value (ap (λ (s : Slot). s.sa) c.forget.ensures) c.self.invariant
