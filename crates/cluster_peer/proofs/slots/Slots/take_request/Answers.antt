-- A new request is answered by the association at its place.
use Rattle.std.proofs.Common.{◌≡◌, Some, ap, sym, ◌∙◌, map, subst}
use Rattle.ike_window.specs.Requests.{IsNewRequest}
use Rattle.ike_window.specs.Windows.{IsAnswered}
use Rattle.turn_rules.specs.PeerMessages.{has_spis}
use Rattle.turn_rules.specs.Slots.{Slot, first_slot, slot_after}
use Rattle.turn_rules.specs.Tasks as task
use Rattle.cluster_peer.specs.Messages.{slot_for}
use Rattle.cluster_peer.specs.Slots.{IsFirstSlot, Slotted}
use Rattle.cluster_peer.proofs.MessageLaws.{answered-after, one-slot}
use Rattle.cluster_peer.proofs.SlotLaws.{distinct-set}
use Rattle.cluster_peer.proofs.SlotLemmas.{first_at}
use Rattle.cluster_peer.proofs.slots.Slots.take_request.Goals as goal

pub answer-requires-clause-new : goal.answer-requires-clause-new
answer-requires-clause-new g c =
    let items = c.self.inside.items.items in
    let slot = c.index_mut-association.result.now in
    let test = has_spis c.args.request.now.header.spii c.args.request.now.header.spir in
    let place : IsFirstSlot test c.in-Some.place items = rw c.deref.ensures.value at c.in-Some.ensures in
    let old : items ≡ c.args.self.now.slots = ap (λ (v : Slotted). v.slots) c.self.view_is in
    let found : slot_for c.args.self.now.slots c.args.request.now ≡ Some slot = ap (first_slot test) (sym old) ∙ first_at test c.in-Some.place items slot place c.index_mut-association.ensures.value in
    subst (λ (s : Slot). IsNewRequest s.answered.low (IsAnswered s.answered) c.args.request.now.header.id) (one-slot c.requires.new.slot slot (sym c.requires.new.found ∙ found)) c.requires.new.new

pub returns-clause-takes : goal.returns-clause-takes
returns-clause-takes g c =
    let items = c.self.inside.items.items in
    let slot = c.index_mut-association.result.now in
    let test = has_spis c.args.request.now.header.spii c.args.request.now.header.spir in
    let place : IsFirstSlot test c.in-Some.place items = rw c.deref.ensures.value at c.in-Some.ensures in
    let old : items ≡ c.args.self.now.slots = ap (λ (v : Slotted). v.slots) c.self.view_is in
    let found : slot_for c.args.self.now.slots c.args.request.now ≡ Some slot = ap (first_slot test) (sym old) ∙ first_at test c.in-Some.place items slot place c.index_mut-association.ensures.value in
    rw found c.answer.ensures.answers

pub returns-clause-after : goal.returns-clause-after
returns-clause-after g c = λ now.
    let items = c.self.inside.items.items in
    let slot = c.index_mut-association.result.now in
    let test = has_spis c.args.request.now.header.spii c.args.request.now.header.spir in
    let place : IsFirstSlot test c.in-Some.place items = rw c.deref.ensures.value at c.in-Some.ensures in
    let old : items ≡ c.args.self.now.slots = ap (λ (v : Slotted). v.slots) c.self.view_is in
    let found : slot_for c.args.self.now.slots c.args.request.now ≡ Some slot = ap (first_slot test) (sym old) ∙ first_at test c.in-Some.place items slot place c.index_mut-association.ensures.value in
    answered-after now c.answer.result c.in-Some.place items slot c.answer.new.self place.within c.index_mut-association.ensures.value c.self.invariant
    c.args.request.now c.answer.ensures.answers (c.answer.ensures.after now)
    ∙ ap (λ slots. map (slot_after now task.Receive c.answer.result) slots) old

pub invariant_of-self : goal.invariant_of-self
invariant_of-self g c =
    let items = c.self.inside.items.items in
    let place : IsFirstSlot (has_spis c.args.request.now.header.spii c.args.request.now.header.spir) c.in-Some.place items = rw c.deref.ensures.value at c.in-Some.ensures in
    distinct-set c.in-Some.place items c.index_mut-association.result.now c.answer.new.self place.within c.index_mut-association.ensures.value c.answer.ensures.sa c.self.invariant
