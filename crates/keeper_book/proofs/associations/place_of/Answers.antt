-- One association more that has another SPI.
use Rattle.std.proofs.Common.{ap, ◌∙◌}
use Rattle.std.proofs.lemmas.List.{take_more}
use Rattle.keeper_book.specs.Book.{Entry, entry_of}
use Rattle.keeper_book.proofs.EntryLemmas.{none_more}
use Rattle.keeper_book.proofs.associations.place_of.Goals as goal

pub loop-place-preserved : goal.loop-place-preserved
loop-place-preserved c =
    ap (entry_of c.args.spir) (take_more _ _ c.index-associations-place.result c.loop-place-test.true)
    ∙ none_more _ _ _ c.loop-place.invariant (λ h. c.if-spir.false (c.spir.ensures ∙ ap (λ (e : Entry). e.sa.spir) c.index-associations-place.is ∙ h))
