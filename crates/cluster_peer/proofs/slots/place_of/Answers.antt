-- One association more, which does not pass.
use Rattle.std.proofs.Common.{ap, sym, take, get_or, ◌∙◌}
use Rattle.std.proofs.lemmas.List.{take_more}
use Rattle.turn_rules.specs.Slots.{first_slot, has_spir}
use Rattle.cluster_peer.proofs.SlotLemmas.{none_more}
use Rattle.cluster_peer.proofs.slots.place_of.Goals as goal

pub loop-place-preserved : goal.loop-place-preserved
loop-place-preserved c =
    let test = has_spir c.args.spir in
    ap (first_slot test) (take_more _ _ c.index-items-place.result c.loop-place-test.true)
    ∙ none_more test (take c.loop-place.place c.args.items.now) (get_or c.args.items.now c.loop-place.place c.index-items-place.result) c.loop-place.invariant
    (ap test (sym c.index-items-place.is) ∙ sym c.has_spir.ensures ∙ c.if-has_spir.false)
