-- The numbers of the book's epochs belong to one end each.
use Rattle.std.specs.Prelude.{ℕ, ◌≡◌, ◌≢◌, ◌≤◌, ◌⊎◌, true, Option, Some, None, List, [], ◌∷◌}
use Rattle.ha_base.specs.declared.counter_names.CounterName.{CounterName}
use Rattle.keeper_book.specs.Book.{Book, Enters, Entry, empty, entry_of, is_spent, pool_next}
use Rattle.keeper_book.specs.Pools.{pool_end}
use Rattle.keeper_book.specs.Records.{spir_of_origin}
use Rattle.keeper_book.specs.declared.counters.Counter.{Counter}
use Rattle.keeper_book.specs.declared.counters.Counter.TheVariants as counter
use Rattle.keeper_book.specs.declared.pools.Pool.{Pool}
use Rattle.keeper_book.specs.declared.pools.Pool.TheVariants as pools
use Rattle.keeper_book.specs.declared.records.Record.{Record}
use Rattle.turn_laws.specs.Acts.{Act, Calls, Ends, IsImport, IsUnstarted, Leaps, MayDo, Move, Opened, Opens, Seals, Starts, Uses, begun_at, column_at, half_begun, holding_at, numbers_at, opened_at, uses_at}
use Rattle.turn_laws.specs.Columns.{Column, ColumnGoesOn, nothing}
use Rattle.turn_laws.specs.Holdings.{Actor, Half, Holding, IsNotIn, IsOwned, column_begun}
use Rattle.turn_laws.specs.Places.{Ours, Place, Pooled, Theirs}
use Rattle.turn_laws.specs.Resumed.{IsResumedRecord}

-- An association that was half open and is in the book: it has the record of its derivation, and its
-- ticket is spent.
pub record IsSettled (acts : List Act) (book : Book) (sa : Record) : Type 0 where
  pub opened : Opened
  pub is_its : opened_at sa.spir acts ≡ Some opened
  pub its_record : IsResumedRecord opened.made sa
  pub spent : is_spent opened.ticket book.spent ≡ true

-- what began at a counter of the cluster without the book: the IVs of what got half open
abbrev pub column_half : Counter → Option Opened → Column
column_half counter.Iv (Some opened) = column_begun half_begun nothing
column_half c opened = nothing

-- nobody holds the first epoch
abbrev pub IsFirstUnheld : (Actor → Option Holding) → Type 0
IsFirstUnheld held = (w : Actor) (h : Holding) → held w ≡ Some h → h.epoch ≢ 1

pub record Owned (acts : List Act) (book : Book) : Type 0 where
  -- of every counter of every association, the cluster's and the peer's, and of each pool
  pub numbers : (p : Place)
      → IsOwned (holding_at p acts) (uses_at p acts) (column_at p acts book)
  -- before the first epoch the highs are the starts
  pub starts : (spir : ℕ) (e : Entry) → entry_of spir book.entries ≡ Some e → e.bases ≡ []
      → e.highs ≡ e.sa.starts
  -- each association of the book was imported, with an SPI that the cluster never draws itself, or
  -- was half open
  pub recorded : (spir : ℕ) (e : Entry) → entry_of spir book.entries ≡ Some e
      → IsImport e.sa ⊎ IsSettled acts book e.sa
  -- no pool is beyond its end
  pub within : (q : Pool) → pool_next q book ≤ pool_end q
  -- nothing got half open under an SPI that was not drawn
  pub opened : (spir : ℕ) → IsNotIn spir (numbers_at (Pooled pools.Nonce) acts)
      → opened_at spir acts ≡ None
  -- and what did has the first IVs
  pub begun : (spir : ℕ) (c : Counter)
      → begun_at (Ours spir c) acts ≡ column_half c (opened_at spir acts)
  -- from which the book's go on
  pub goes_on : (spir : ℕ) → ColumnGoesOn (begun_at (Ours spir counter.Iv) acts)
      (column_at (Ours spir counter.Iv) acts book)
  -- while it is half open, nobody holds the first epoch of another counter of it
  pub unheld : (spir : ℕ) (o : Opened) (g : Holding) (c : Counter)
      → opened_at spir acts ≡ Some o
      → holding_at (Ours spir counter.Iv) acts (Half spir) ≡ Some g → g.epoch ≡ 1
      → c ≢ counter.Iv → IsFirstUnheld (holding_at (Ours spir c) acts)
  -- the peer has no number of an association that it did not begin by a resumption and that the
  -- book does not have
  pub entered : (name : CounterName) (spir : ℕ) → spir_of_origin name.origin ≡ Some spir
      → IsUnstarted name acts → entry_of spir book.entries ≡ None
      → begun_at (Theirs name) acts ≡ nothing

-- what a move does to the book
abbrev pub WritesBook : Book → Move → Book → Type 0
WritesBook old (Calls call) new = Enters old call new
WritesBook old (Uses place number) new = new ≡ old
WritesBook old (Seals key) new = new ≡ old
WritesBook old (Leaps place number) new = new ≡ old
WritesBook old (Opens ticket made) new = new ≡ old
WritesBook old (Starts sa) new = new ≡ old
WritesBook old Ends new = new ≡ old

-- each act may come after those before it, and the book is the one that they lead to
abbrev pub Lawful : List Act → Book → Type 0
Lawful [] book = book ≡ empty
Lawful (act ∷ acts) book = (mid : Book) × Lawful acts mid × MayDo acts act.by act.move
    × WritesBook mid act.move book
