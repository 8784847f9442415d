-- One holding more, of another association.
use Rattle.std.proofs.Common.{ap, ◌∙◌}
use Rattle.std.proofs.lemmas.List.{take_more}
use Rattle.turn_rules.specs.Held.{Held, held_at}
use Rattle.cluster_member.proofs.PlaceLemmas.{none_more}
use Rattle.cluster_member.proofs.holdings.place_of.Goals as goal

pub loop-place-preserved : goal.loop-place-preserved
loop-place-preserved c =
    ap (λ hs. held_at hs c.args.spir) (take_more _ _ c.index-items-place.result c.loop-place-test.true)
    ∙ none_more _ _ _ c.loop-place.invariant (λ h. c.if-spir.false (c.spir.ensures ∙ ap (λ (e : Held). e.sa.spir) c.index-items-place.is ∙ h))
