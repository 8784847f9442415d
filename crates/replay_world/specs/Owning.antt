-- Whose the numbers of a keeper's book are.
use Rattle.std.specs.Prelude.{Option, Some, None, List}
use Rattle.events.specs.declared.turn.Turn.{Turn}
use Rattle.keeper_book.specs.Book.{Book}
use Rattle.turn_laws.specs.Turns.{AreOwned}

-- the book is told, and the numbers of its epochs belong to one end each
abbrev pub OwnedTold : List Turn → Option Book → Type 0
OwnedTold past None = ⊥
OwnedTold past (Some book) = AreOwned past book
