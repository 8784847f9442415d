-- One holding more, which receives at the SPI or elsewhere.
use Rattle.std.proofs.Common.{◌≡◌, ◌+◌, ◌++◌, ◌∷◌, [], take, get_or, ap, sym, ◌∙◌, subst}
use Rattle.std.proofs.lemmas.List.{take_more}
use Rattle.turn_rules.specs.Held.{Held}
use Rattle.cluster_member.specs.Places.{IsLeastAt}
use Rattle.cluster_member.proofs.ReceiverLemmas.{IsFound, found_else, found_then, same_item}
use Rattle.cluster_member.proofs.holdings.receiver_of.Goals as goal
use Rattle.cluster_member.proofs.holdings.receiver_of.Goals.{then-spi, else-spi}

pub loop-place-preserved : goal.loop-place-preserved
loop-place-preserved c =
    let items = c.args.items.now in
    let place = c.loop-place.place in
    let x = get_or items place c.index-items-place.result in
    let at : x ≡ get_or items place x = same_item place items c.index-items-place.result x c.loop-place-test.true in
    let seen : take (place + 1) items ≡ take place items ++ x ∷ [] = take_more _ _ c.index-items-place.result c.loop-place-test.true in
    let spi : c.spi.result ≡ x.sa.spi_in = c.spi.ensures ∙ ap (λ (e : Held). e.sa.spi_in) c.index-items-place.is in
    elim c.if-spi.branch [
      | then-spi w ↦ subst (IsFound c.args.spi items (take (place + 1) items)) (sym w.found-is)
          (subst (λ s. IsLeastAt c.args.spi w.lesser.result s items) (sym seen)
          (found_then c.args.spi place items (take place items) x c.loop-place-test.true at (sym spi ∙ w.if-spi.true) c.loop-place.found w.lesser.result w.lesser.ensures c.loop-place.invariant))
      | else-spi w ↦ subst (IsFound c.args.spi items (take (place + 1) items)) (sym w.found-is)
          (subst (λ s. IsFound c.args.spi items s c.loop-place.found) (sym seen)
          (found_else c.args.spi items (take place items) x c.loop-place.found (λ h. w.if-spi.false (spi ∙ h)) c.loop-place.invariant))
    ]
