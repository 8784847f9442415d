-- A request to synchronise is answered by the association at its place.
use Rattle.std.proofs.Common.{◌≡◌, Some, ap, sym, ◌∙◌, map}
use Rattle.turn_rules.specs.PeerMessages.{has_spis}
use Rattle.turn_rules.specs.Slots.{first_slot, slot_after}
use Rattle.turn_rules.specs.Tasks as task
use Rattle.cluster_peer.specs.Messages.{slot_for}
use Rattle.cluster_peer.specs.Slots.{IsFirstSlot, Slotted}
use Rattle.cluster_peer.proofs.Arriving.{sync-takes}
use Rattle.cluster_peer.proofs.MessageLaws.{synchronised-after}
use Rattle.cluster_peer.proofs.SlotLaws.{distinct-set}
use Rattle.cluster_peer.proofs.SlotLemmas.{first_at}
use Rattle.cluster_peer.proofs.slots.Slots.synchronise.Goals as goal

pub returns-clause-takes : goal.returns-clause-takes
returns-clause-takes c =
    let items = c.self.inside.items.items in
    let slot = c.index_mut-association.result.now in
    let test = has_spis c.args.request.now.header.spii c.args.request.now.header.spir in
    let place : IsFirstSlot test c.in-Some.place items = rw c.deref.ensures.value at c.in-Some.ensures in
    let old : items ≡ c.args.self.now.slots = ap (λ (v : Slotted). v.slots) c.self.view_is in
    let found : slot_for c.args.self.now.slots c.args.request.now ≡ Some slot = ap (first_slot test) (sym old) ∙ first_at test c.in-Some.place items slot place c.index_mut-association.ensures.value in
    sync-takes c.args.self.now.slots slot c.args.request.now c.synchronise.result found c.synchronise.ensures.answers

pub returns-clause-after : goal.returns-clause-after
returns-clause-after c = λ now.
    let items = c.self.inside.items.items in
    let slot = c.index_mut-association.result.now in
    let test = has_spis c.args.request.now.header.spii c.args.request.now.header.spir in
    let place : IsFirstSlot test c.in-Some.place items = rw c.deref.ensures.value at c.in-Some.ensures in
    let old : items ≡ c.args.self.now.slots = ap (λ (v : Slotted). v.slots) c.self.view_is in
    let found : slot_for c.args.self.now.slots c.args.request.now ≡ Some slot = ap (first_slot test) (sym old) ∙ first_at test c.in-Some.place items slot place c.index_mut-association.ensures.value in
    synchronised-after now c.synchronise.result c.in-Some.place items slot c.synchronise.new.self place.within c.index_mut-association.ensures.value c.self.invariant
    c.args.request.now c.synchronise.ensures.answers (c.synchronise.ensures.after now)
    ∙ ap (λ slots. map (slot_after now task.Receive c.synchronise.result) slots) old

pub invariant_of-self : goal.invariant_of-self
invariant_of-self c =
    let items = c.self.inside.items.items in
    let place : IsFirstSlot (has_spis c.args.request.now.header.spii c.args.request.now.header.spir) c.in-Some.place items = rw c.deref.ensures.value at c.in-Some.ensures in
    distinct-set c.in-Some.place items c.index_mut-association.result.now c.synchronise.new.self place.within c.index_mut-association.ensures.value c.synchronise.ensures.sa c.self.invariant
