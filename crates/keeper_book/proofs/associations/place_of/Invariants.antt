-- No association so far has the SPI.
use Rattle.std.proofs.Common.{◌≡◌, None, take}
use Rattle.keeper_book.specs.Book.{entry_of}
use Rattle.keeper_book.proofs.associations.place_of.Given as goal

abbrev pub invariant-loop-place : goal.invariant-loop-place
invariant-loop-place l = entry_of l.spir (take l.place l.associations) ≡ None
