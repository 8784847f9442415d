-- A range that is leased keeps the numbers of its pool apart, whether or not its caller saw it.
use Rattle.std.proofs.Common.{◌≡◌, ℕ, ◌+◌, ◌-◌, ◌<◌, ◌≤◌, Bool, true, false, Option, Some, None, List, [], ◌∷◌, ◌++◌, length, refl, ap, sym, ◌∙◌, subst, arith, if◌then◌else◌}
use Rattle.std.proofs.lemmas.Bool.{ltb-false}
use Rattle.std.specs.Prelude.{nat_lt}
use Rattle.keeper_book.specs.Book.{Book, book_entered, lease_refusal, pool_next, when, with_pool_next}
use Rattle.keeper_book.specs.Pools.{pool_end, pool_number}
use Rattle.keeper_book.specs.declared.calls.KeeperAnswer.TheVariants as answer
use Rattle.keeper_book.specs.declared.calls.KeeperAsk.{KeeperAsk}
use Rattle.keeper_book.specs.declared.calls.KeeperAsk.TheVariants as ask
use Rattle.keeper_book.specs.declared.faults.KeeperFault.TheVariants as fault
use Rattle.keeper_book.specs.declared.pools.Pool.{Pool}
use Rattle.keeper_book.specs.declared.pools.PoolNumbers.{PoolNumbers}
use Rattle.keeper_book.specs.declared.pools.Pool.TheVariants as pools
use Rattle.turn_laws.proofs.Columns.{goes_on-epoch, goes_on-higher, length-append_one, mark-high, mark-with_epoch, with_epoch}
use Rattle.turn_laws.proofs.Holdings.{Keeps}
use Rattle.turn_laws.specs.Acts.{effect_begun, lot_begun, lot_of, with_begun}
use Rattle.turn_laws.specs.Columns.{Column, ColumnGoesOn, IsRising, column_mark}
use Rattle.turn_laws.specs.Holdings.{Actor, Begins, Holding, IsNew, column_begun}
use Rattle.turn_laws.specs.Places.{Pooled, column, is_pool}

pub is_pool-same : (p : Pool) → is_pool p p ≡ true
is_pool-same pools.Ticket = refl
is_pool-same pools.Nonce = refl

pub is_pool-true : (p q : Pool) → is_pool p q ≡ true → p ≡ q
is_pool-true pools.Ticket pools.Ticket e = refl
is_pool-true pools.Nonce pools.Nonce e = refl
is_pool-true pools.Ticket pools.Nonce e = absurd (cc)
is_pool-true pools.Nonce pools.Ticket e = absurd (cc)

-- no call lowers the next number of a pool
pub pool-entered : (q : Pool) (book : Book) (asked : KeeperAsk) → pool_next q book ≤ pool_next q (book_entered book asked)
pool-entered pools.Ticket book (ask.Lease pools.Ticket count) = omega arith
pool-entered pools.Ticket book (ask.Lease pools.Nonce count) = omega arith
pool-entered pools.Nonce book (ask.Lease pools.Ticket count) = omega arith
pool-entered pools.Nonce book (ask.Lease pools.Nonce count) = omega arith
pool-entered q book (ask.Enter sa) = omega arith
pool-entered q book (ask.TakeOver spir member) = omega arith
pool-entered q book (ask.Cover spir kind child epoch upto) = omega arith
pool-entered q book (ask.Settle ticket old_spir sa member) = omega arith
pool-entered q book (ask.Look ticket) = omega arith

-- a lease changes the next number of its pool alone
pub lease-entries : (pool : Pool) (n : ℕ) (book : Book) → (with_pool_next pool n book).entries ≡ book.entries
lease-entries pools.Ticket n book = refl
lease-entries pools.Nonce n book = refl

next-leased : (pool : Pool) (n : ℕ) (book : Book) → pool_next pool (with_pool_next pool n book) ≡ n
next-leased pools.Ticket n book = refl
next-leased pools.Nonce n book = refl

next-other : (pool q : Pool) (n : ℕ) (book : Book) → is_pool pool q ≡ false → pool_next q (with_pool_next pool n book) ≡ pool_next q book
next-other pools.Ticket pools.Ticket n book e = absurd (cc)
next-other pools.Ticket pools.Nonce n book e = refl
next-other pools.Nonce pools.Ticket n book e = refl
next-other pools.Nonce pools.Nonce n book e = absurd (cc)

module _ (lots : List ℕ) (high end count : ℕ) (rising : IsRising (record { bases = lots; high = high; end = end })) where
  abbrev was : Column
  was = record { bases = lots; high = high; end = end }

  abbrev now : Column
  now = record { bases = lots ++ high ∷ []; high = high + count; end = end }

  longer : length (lots ++ high ∷ []) ≡ length lots + 1
  longer = length-append_one lots high

  begun : ColumnGoesOn was (with_epoch was)
  begun = goes_on-epoch was rising

  raised : ColumnGoesOn (with_epoch was) now
  raised = goes_on-higher (with_epoch was) (high + count) begun.rising (omega arith)

  marks : (i : ℕ) → i < length lots + 1 → column_mark now i ≡ column_mark was i
  marks i l = raised.same_bases i (let e : length (lots ++ high ∷ []) ≡ length lots + 1 = longer in omega arith) ∙ mark-with_epoch was i

  top : column_mark now (length lots) ≡ high
  top = marks (length lots) (omega arith) ∙ mark-high was (length lots) (omega arith)

  pub lot-goes_on : ColumnGoesOn was now
  lot-goes_on = record {
    no_shorter = let e : length (lots ++ high ∷ []) ≡ length lots + 1 = longer in omega arith;
    same_bases = λ i l. marks i (omega (arith, l));
    no_lower = let e : column_mark now (length lots) ≡ high = top in omega arith;
    rising = raised.rising;
    same_end = λ some. refl;
  }

  pub lot-new : IsNew was now (record { epoch = length lots + 1; base = high; next = high; high = high + count; end = end; numbers = [] })
  lot-new = record {
    next_epoch = refl;
    of_column = record {
      some = omega arith;
      begun = let e : length (lots ++ high ∷ []) ≡ length lots + 1 = longer in omega arith;
      base = let place : length lots + 1 - 1 ≡ length lots = omega arith in ap (column_mark now) place ∙ top;
      high =
          let above : column_mark now (length lots + 1) ≡ high + count = mark-high now (length lots + 1) (let e : length (lots ++ high ∷ []) ≡ length lots + 1 = longer in omega arith) in
          omega arith;
      end = refl;
      from_base = omega arith;
      above_used = tt;
    };
    unused = refl;
  }

module _ (held : Actor → Option Holding) (w : Actor) (begun : Column) (old new : Book) (pool : Pool) (first count : ℕ) (is_next : first ≡ pool_next pool old) (is : new ≡ with_pool_next pool (first + count) old) where
  -- the pool's next number afterwards
  next-is : pool_next pool new ≡ first + count
  next-is = ap (pool_next pool) is ∙ next-leased pool (first + count) old

  lot-begins : IsRising (column (Pooled pool) begun old) → Keeps (Begins w (lot_begun (length begun.bases) pool first count)) held (column (Pooled pool) begun old) (column (Pooled pool) (column_begun (lot_begun (length begun.bases) pool first count) begun) new)
  lot-begins rising =
      subst (λ next. ColumnGoesOn (column (Pooled pool) begun old) (record { bases = begun.bases ++ first ∷ []; high = next; end = pool_end pool })
      × IsNew (column (Pooled pool) begun old) (record { bases = begun.bases ++ first ∷ []; high = next; end = pool_end pool }) (lot_begun (length begun.bases) pool first count)) (sym next-is)
      (subst (λ n. ColumnGoesOn (column (Pooled pool) begun old) (record { bases = begun.bases ++ n ∷ []; high = n + count; end = pool_end pool })
      × IsNew (column (Pooled pool) begun old) (record { bases = begun.bases ++ n ∷ []; high = n + count; end = pool_end pool }) (lot_begun (length begun.bases) pool n count)) (sym is_next)
      (lot-goes_on begun.bases (pool_next pool old) (pool_end pool) count rising, lot-new begun.bases (pool_next pool old) (pool_end pool) count rising))

  -- other pools stay
  goes-higher : (q : Pool) → IsRising (column (Pooled q) begun old) → pool_next q old ≤ pool_next q new → ColumnGoesOn (column (Pooled q) begun old) (column (Pooled q) begun new)
  goes-higher q rising above = goes_on-higher (column (Pooled q) begun old) (pool_next q new) rising above

  no-lower : (q : Pool) → pool_next q old ≤ pool_next q new
  no-lower q = by_test (is_pool pool q) refl
    where
      by_test : (b : Bool) → is_pool pool q ≡ b → pool_next q old ≤ pool_next q new
      by_test true t =
          subst (λ r. pool_next r old ≤ pool_next r new) (is_pool-true pool q t)
          (let a : pool_next pool new ≡ first + count = next-is in let b : first ≡ pool_next pool old = is_next in omega arith)
      by_test false t = let e : pool_next q new ≡ pool_next q old = ap (pool_next q) is ∙ next-other pool q (first + count) old t in omega arith

  -- a lease that its caller saw is its lot
  pub keeps-lease : (q : Pool) → IsRising (column (Pooled q) begun old) → Keeps (effect_begun w (lot_of q (length begun.bases) (ask.Lease pool count) (answer.First first))) held (column (Pooled q) begun old) (column (Pooled q) (with_begun (lot_of q (length begun.bases) (ask.Lease pool count) (answer.First first)) begun) new)
  keeps-lease q rising = by_test (is_pool pool q) refl
    where
      by_test : (b : Bool) → is_pool pool q ≡ b
          → Keeps (effect_begun w (if b then Some (lot_begun (length begun.bases) pool first count) else None)) held (column (Pooled q) begun old) (column (Pooled q) (with_begun (if b then Some (lot_begun (length begun.bases) pool first count) else None) begun) new)
      by_test true t =
          subst (λ r. IsRising (column (Pooled r) begun old) → Keeps (Begins w (lot_begun (length begun.bases) pool first count)) held (column (Pooled r) begun old) (column (Pooled r) (column_begun (lot_begun (length begun.bases) pool first count) begun) new)) (is_pool-true pool q t) lot-begins rising
      by_test false t = goes-higher q rising (no-lower q)

-- a lease that is granted has its range in the pool
pub shows-leased : (pool : Pool) (count : ℕ) (next : PoolNumbers) → lease_refusal pool count next ≡ None → pool_number pool next + count ≤ pool_end pool
shows-leased pool count next none = by_test (nat_lt (pool_end pool) (pool_number pool next + count)) refl none
  where
    by_test : (b : Bool) → nat_lt (pool_end pool) (pool_number pool next + count) ≡ b → when b (fault.Full (pool_end pool)) None ≡ None → pool_number pool next + count ≤ pool_end pool
    by_test true t none = absurd (cc)
    by_test false t none = ltb-false (pool_end pool) (pool_number pool next + count) t

-- a lease gets no pool beyond its end
pub lease-within : (old new : Book) (pool : Pool) (first count : ℕ) → first + count ≤ pool_end pool → new ≡ with_pool_next pool (first + count) old → (q : Pool) → pool_next q old ≤ pool_end q → pool_next q new ≤ pool_end q
lease-within old new pool first count within is q before = by_test (is_pool pool q) refl
  where
    by_test : (b : Bool) → is_pool pool q ≡ b → pool_next q new ≤ pool_end q
    by_test true t = subst (λ r. pool_next r new ≤ pool_end r) (is_pool-true pool q t) (let e : pool_next pool new ≡ first + count = ap (pool_next pool) is ∙ next-leased pool (first + count) old in omega arith)
    by_test false t = let e : pool_next q new ≡ pool_next q old = ap (pool_next q) is ∙ next-other pool q (first + count) old t in omega arith
