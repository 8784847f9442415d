-- One association more, of other SPIs.
use Rattle.std.proofs.Common.{ap, sym, ◌∙◌}
use Rattle.std.proofs.lemmas.List.{take_more}
use Rattle.turn_rules.specs.PeerMessages.{has_spis}
use Rattle.turn_rules.specs.Slots.{first_slot}
use Rattle.cluster_peer.proofs.SlotLemmas.{none_more}
use Rattle.cluster_peer.proofs.messages.place_of_spis.Goals as goal

pub loop-place-preserved : goal.loop-place-preserved
loop-place-preserved c =
    let test = has_spis c.args.spii c.args.spir in
    ap (first_slot test) (take_more _ _ c.index-items-place.result c.loop-place-test.true)
    ∙ none_more test _ _ c.loop-place.invariant
    (ap test (sym c.index-items-place.is) ∙ sym c.has_spis.ensures ∙ c.if-has_spis.false)
