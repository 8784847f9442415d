-- A request ends in the association at its place.
use Rattle.std.proofs.Common.{◌≡◌, Some, ap, sym, ◌∙◌, map}
use Rattle.turn_rules.specs.PeerMessages.{has_spis}
use Rattle.turn_rules.specs.Slots.{first_slot, slot_after}
use Rattle.turn_rules.specs.Tasks as task
use Rattle.cluster_peer.specs.Messages.{slot_for}
use Rattle.cluster_peer.specs.Slots.{IsFirstSlot, Slotted}
use Rattle.turn_rules.proofs.Cases.{ok-map, ok-map2}
use Rattle.cluster_peer.proofs.Arriving.{response-takes}
use Rattle.cluster_peer.proofs.MessageLaws.{replied-after}
use Rattle.cluster_peer.proofs.SlotLaws.{distinct-set}
use Rattle.cluster_peer.proofs.SlotLemmas.{first_at}
use Rattle.cluster_peer.proofs.slots.Slots.take_response.Goals as goal

pub returns-clause-takes : goal.returns-clause-takes
returns-clause-takes c =
    let items = c.self.inside.items.items in
    let slot = c.index_mut-association.result.now in
    let response = c.args.response.now in
    let test = has_spis response.header.spii response.header.spir in
    let place : IsFirstSlot test c.in-Some.place items = rw c.deref.ensures.value at c.in-Some.ensures in
    let found : slot_for c.args.self.now.slots response ≡ Some slot =
    ap (λ (v : Slotted). first_slot test v.slots) (sym c.self.view_is) ∙ first_at test c.in-Some.place items slot place c.index_mut-association.ensures.value in
    ok-map c.take_reply.result (λ step takes. response-takes c.args.self.now.slots slot response step found takes) c.take_reply.ensures.takes

pub returns-clause-after : goal.returns-clause-after
returns-clause-after c =
    let items = c.self.inside.items.items in
    let slot = c.index_mut-association.result.now in
    let response = c.args.response.now in
    let place : IsFirstSlot (has_spis response.header.spii response.header.spir) c.in-Some.place items = rw c.deref.ensures.value at c.in-Some.ensures in
    ok-map2 c.take_reply.result (λ step takes after.
    replied-after c.args.now step c.in-Some.place items slot c.take_reply.new.self place.within c.index_mut-association.ensures.value c.self.invariant response.header.id response.inner takes after
    ∙ ap (λ (v : Slotted). map (slot_after c.args.now task.Receive step) v.slots) c.self.view_is) c.take_reply.ensures.takes c.take_reply.ensures.after

pub invariant_of-self : goal.invariant_of-self
invariant_of-self c =
    let items = c.self.inside.items.items in
    let response = c.args.response.now in
    let place : IsFirstSlot (has_spis response.header.spii response.header.spir) c.in-Some.place items = rw c.deref.ensures.value at c.in-Some.ensures in
    distinct-set c.in-Some.place items c.index_mut-association.result.now c.take_reply.new.self place.within c.index_mut-association.ensures.value c.take_reply.ensures.sa c.self.invariant
