-- Lots of a pool do not meet, and each number is drawn of one lot, once.
use Rattle.std.proofs.Common.{◌≡◌, ◌-◌, ◌<◌, ◌≤◌, Some, List, [], ◌∷◌, map, arith}
use Rattle.std.specs.List.{AllByRecursion}
use Rattle.keeper_book.specs.Book.{Book, pool_next}
use Rattle.keeper_book.specs.declared.pools.Pool.{Pool}
use Rattle.turn_laws.proofs.Columns.{mark-top}
use Rattle.turn_laws.specs.Acts.{Act, column_at, holding_at, numbers_at, uses_at}
use Rattle.turn_laws.specs.Columns.{Column, IsRising, column_mark}
use Rattle.turn_laws.specs.Holdings.{Actor, Holding, IsOwned, IsUseOf, Use}
use Rattle.turn_laws.specs.Owned.{Owned}
use Rattle.turn_laws.specs.Places.{Pooled}

-- the numbers of a column lie below its high
pub all-below : (column : Column) → IsRising column → (us : List Use) → AllByRecursion (IsUseOf column) us → AllByRecursion (λ n. n < column.high) (map (λ u. u.number) us)
all-below column rising us all = go us all
  where
    go : (us : List Use) → AllByRecursion (IsUseOf column) us → AllByRecursion (λ n. n < column.high) (map (λ u. u.number) us)
    go [] all = tt
    go (u ∷ us) all = (
      (let a : u.number < column_mark column u.epoch = all.0.below in let b : column_mark column u.epoch ≤ column.high = mark-top column rising u.epoch all.0.begun in let c : u.number < column.high = omega arith in c),
      go us all.1,
    )

module _ (acts : List Act) (book : Book) (owned : Owned acts book) (q : Pool) where
  abbrev its_column : Column
  its_column = column_at (Pooled q) acts book

  its : IsOwned (holding_at (Pooled q) acts) (uses_at (Pooled q) acts) its_column
  its = owned.numbers (Pooled q)

  pub lot-below : (w : Actor) (h : Holding) → holding_at (Pooled q) acts w ≡ Some h → h.high ≤ pool_next q book
  lot-below w h holds =
      let a : h.high ≤ column_mark its_column h.epoch = (its.holdings w h holds).high in
      let b : column_mark its_column h.epoch ≤ pool_next q book = mark-top its_column its.rising h.epoch (its.holdings w h holds).begun in
      omega arith

  pub lots-apart : (w v : Actor) (h g : Holding) → holding_at (Pooled q) acts w ≡ Some h → holding_at (Pooled q) acts v ≡ Some g → h.epoch < g.epoch → h.high ≤ g.base
  lots-apart w v h g holds other earlier =
      let a : h.high ≤ column_mark its_column h.epoch = (its.holdings w h holds).high in
      let b : column_mark its_column h.epoch ≤ column_mark its_column (g.epoch - 1) = its.rising h.epoch (g.epoch - 1) (omega (arith, earlier)) in
      let d : column_mark its_column (g.epoch - 1) ≡ g.base = (its.holdings v g other).base in
      omega arith

  pub drawn-below : AllByRecursion (λ n. n < pool_next q book) (numbers_at (Pooled q) acts)
  drawn-below = all-below its_column its.rising (uses_at (Pooled q) acts) its.within
