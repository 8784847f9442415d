-- What a keeper in memory answers to leases, and to tickets that are spent, is what the book says.
use Rattle.std.proofs.Common.{◌≡◌, ℕ, ◌+◌, ◌<◌, ◌≤◌, nat_le, nat_lt, length, Bool, true, false, List, [], ◌∷◌, ◌++◌, Option, Some, None, Result, Ok, Err, refl, ap, sym, subst, ◌∙◌, arith, ⊎_elim, inl, inr}
use Rattle.std.proofs.lemmas.Bool.{le-ltb, lt-ltb}
use Rattle.std.proofs.lemmas.Option.{same_Some}
use Rattle.std.specs.List.{list_any}
use Rattle.keeper_book.specs.declared.TheConstants.{MAX_ASSOCIATIONS, MAX_SPENT_TICKETS}
use Rattle.keeper_book.specs.declared.calls.KeeperAnswer.TheVariants as answer
use Rattle.keeper_book.specs.declared.calls.KeeperAsk.{KeeperAsk}
use Rattle.keeper_book.specs.declared.calls.KeeperAsk.TheVariants as ask
use Rattle.keeper_book.specs.declared.faults.KeeperFault.{KeeperFault}
use Rattle.keeper_book.specs.declared.faults.KeeperFault.TheVariants as fault
use Rattle.keeper_book.specs.declared.pools.Pool.{Pool}
use Rattle.keeper_book.specs.declared.pools.Pool.TheVariants as pool
use Rattle.keeper_book.specs.declared.pools.PoolNumbers.{PoolNumbers}
use Rattle.keeper_book.specs.declared.records.Record.{Record}
use Rattle.keeper_book.specs.Book.{Answers, Book, Entry, book_entered, closed, edit_at, entry_of, is_spent, lease_refusal, pool_next, refusal, settle_refusal, shares_spi, when, with_pool_next}
use Rattle.keeper_book.specs.Pools.{ArePoolNumbers, IsRangeOf, pool_number, pool_end}
use Rattle.keeper_book.specs.Told.{IsFailed, IsRefusalOf}
use Rattle.keeper_book.proofs.BookAnswers.{granted, refused_by_name}
use Rattle.keeper_book.proofs.EntryLemmas.{edit_at-there, entry_of-there, not_here}

-- where no association has the SPI, none is edited
pub edit_none : (spir : ℕ) (edit : Entry → Entry) (es : List Entry) → entry_of spir es ≡ None → edit_at spir edit es ≡ es
edit_none spir edit [] n = refl
edit_none spir edit (e ∷ es) n =
    let other = not_here spir e es n in
    edit_at-there spir edit e es other ∙ ap (λ xs. e ∷ xs) (edit_none spir edit es (sym (entry_of-there spir e es other) ∙ n))

-- the next number of a pool lies in it, or is its end
pub number_within : (numbers : PoolNumbers) → ArePoolNumbers numbers → (pool : Pool) → IsRangeOf pool 0 (pool_number pool numbers)
number_within numbers are pool.Ticket = are.ticket
number_within numbers are pool.Nonce = are.nonce

-- a range that ends in the pool is one of it
pub range_within : (pool : Pool) (count first : ℕ) → IsRangeOf pool 0 first → first + count ≤ pool_end pool → IsRangeOf pool count first
range_within pool count first is below = record { begins = is.begins; ends = below }

module _ (old : Book) (pool : Pool) (count : ℕ) where
  no_memory : (b : Bool) → when b (fault.Full (pool_end pool)) None ≡ Some fault.Memory → ⊥
  no_memory true r = cc
  no_memory false r = cc

  pub lease_full : pool_end pool < pool_number pool old.next + count → Answers old (ask.Lease pool count) (answer.Refused (fault.Full (pool_end pool))) old
  lease_full past =
      let full : nat_lt (pool_end pool) (pool_number pool old.next + count) ≡ true = lt-ltb _ _ past in
      refused_by_name old (ask.Lease pool count) (fault.Full (pool_end pool)) (λ m. no_memory _ m) (ap (λ b. when b (fault.Full (pool_end pool)) None) full)

  pub lease_first : (first : ℕ) (new : Book) → pool_number pool old.next + count ≤ pool_end pool → first ≡ pool_next pool old → new ≡ with_pool_next pool (first + count) old → Answers old (ask.Lease pool count) (answer.First first) new
  lease_first first new below is_next is =
      let room : nat_lt (pool_end pool) (pool_number pool old.next + count) ≡ false = le-ltb _ _ below in
      granted old (ask.Lease pool count) (answer.First first) new (ap (λ b. when b (fault.Full (pool_end pool)) None) room) (ap answer.First is_next) (is ∙ ap (λ n. with_pool_next pool (n + count) old) is_next)

-- whether a ticket is spent
pub looked : (old : Book) (ticket : ℕ) → Answers old (ask.Look ticket) (answer.Look (is_spent ticket old.spent)) old
looked old ticket = granted old (ask.Look ticket) (answer.Look (is_spent ticket old.spent)) old refl refl refl

-- what holds of each refusal of a list of them
first_of : (P : KeeperFault → Type 0) (test : Bool) (why : KeeperFault) (later : Option KeeperFault) (found : KeeperFault) → P why → (later ≡ Some found → P found) → when test why later ≡ Some found → P found
first_of P true why later found here rest is = subst P (same_Some why found is) here
first_of P false why later found here rest is = rest is

-- a refusal by name of a ticket that is to be spent
record IsByName (asked : KeeperAsk) (why : KeeperFault) : Type 0 where
  pub promised : IsRefusalOf asked why
  pub no_failure : IsFailed (answer.Refused why) → ⊥
  pub no_memory : why ≡ fault.Memory → ⊥

module _ (ticket old_spir : ℕ) (sa : Record) (member : ℕ) (old : Book) where
  abbrev asked : KeeperAsk
  asked = ask.Settle ticket old_spir sa member

  by_name : (why : KeeperFault) → settle_refusal ticket sa old.spent old.entries ≡ Some why → IsByName asked why
  by_name why = first_of (IsByName asked) (is_spent ticket old.spent) fault.Spent _ why (record { promised = tt; no_failure = λ f. f; no_memory = λ e. cc })
      (first_of (IsByName asked) (list_any (shares_spi sa) old.entries) fault.SpiInUse _ why (record { promised = tt; no_failure = λ f. f; no_memory = λ e. cc })
      (first_of (IsByName asked) (nat_le MAX_SPENT_TICKETS (length old.spent)) (fault.Full MAX_SPENT_TICKETS) _ why (record { promised = inl refl; no_failure = λ f. f; no_memory = λ e. cc })
      (first_of (IsByName asked) (nat_le MAX_ASSOCIATIONS (length old.entries)) (fault.Full MAX_ASSOCIATIONS) None why (record { promised = inr refl; no_failure = λ f. f; no_memory = λ e. cc })
      (λ none. absurd (cc)))))

  pub settle_promised : (why : KeeperFault) → settle_refusal ticket sa old.spent old.entries ≡ Some why → IsRefusalOf asked why
  settle_promised why is = (by_name why is).promised

  pub settle_soundly : (why : KeeperFault) → settle_refusal ticket sa old.spent old.entries ≡ Some why → IsFailed (answer.Refused why) → ⊥
  settle_soundly why is = (by_name why is).no_failure

  pub settle_refused : (why : KeeperFault) → settle_refusal ticket sa old.spent old.entries ≡ Some why → Answers old asked (answer.Refused why) old
  settle_refused why is = refused_by_name old asked why (λ m. (by_name fault.Memory m).no_memory refl) is

  pub settle_done : (new : Book) → settle_refusal ticket sa old.spent old.entries ≡ None → new ≡ book_entered old asked → Answers old asked answer.Done new
  settle_done new none is = granted old asked answer.Done new none refl is

  pub settle_memory : (new : Book) → settle_refusal ticket sa old.spent old.entries ≡ None → new ≡ old → Answers old asked (answer.Refused fault.Memory) new
  settle_memory new none is = (refl, none, is)
