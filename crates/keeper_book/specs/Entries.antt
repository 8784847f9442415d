-- Where an association stands among the entries of a book.
use Rattle.std.specs.Prelude.{ℕ, ◌<◌, ◌≡◌, None, List, length, take, slice_index_or}
use Rattle.keeper_book.specs.Book.{Entry, entry_of}

-- the first association with this responder's SPI stands at this place
pub record IsPlaceOf (spir place : ℕ) (entries : List Entry) : Type 0 where
  pub within : place < length entries
  pub none_before : entry_of spir (take place entries) ≡ None
  pub here : (e : Entry) → e ≡ slice_index_or entries place e → e.sa.spir ≡ spir
