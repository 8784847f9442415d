-- The association that has the SPI is closed, and none where there is no such one.
use Rattle.std.proofs.Common.{ap, sym, ◌∙◌}
use Rattle.std.specs.Prelude.{slice_set}
use Rattle.keeper_book.specs.Book.{closed}
use Rattle.keeper_book.proofs.EntryLemmas.{edited_at}
use Rattle.keeper_book.proofs.PoolAnswers.{edit_none}
use Rattle.keeper_book.proofs.memory_keepers.close_at.Goals as goal

pub returns-in-Some : goal.returns-in-Some
returns-in-Some c =
    ap (slice_set c.args.associations.now c.in-Some.place) (c.close.ensures ∙ ap closed (sym c.index-associations-place.is))
    ∙ sym (edited_at c.args.spir c.in-Some.place closed c.args.associations.now c.index-associations-place.result c.in-Some.ensures c.index-associations-place.is)

pub returns-in-None : goal.returns-in-None
returns-in-None c = sym (edit_none c.args.spir closed c.args.associations.now c.in-None.ensures)
