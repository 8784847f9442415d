-- The keeper's book as plain data, what a call asks of it, and what is answered.
use Rattle.std.specs.Prelude.{ℕ, ◌+◌, ◌≡◌, ◌⊎◌, Bool, true, false, not, ◌||◌, ◌==◌, nat_le, nat_lt, if◌then◌else◌, min, max, Option, Some, None, List, [], ◌∷◌, ◌++◌, length}
use Rattle.std.specs.List.{list_any}
use Rattle.keeper_book.specs.declared.TheConstants.{MAX_ASSOCIATIONS, MAX_EPOCHS, MAX_SPENT_TICKETS, SETTLED_ANSWER_HIGH, SETTLED_IV_HIGH}
use Rattle.keeper_book.specs.declared.calls.Call.{Call}
use Rattle.keeper_book.specs.declared.calls.KeeperAnswer.{KeeperAnswer}
use Rattle.keeper_book.specs.declared.calls.KeeperAnswer.TheVariants as answer
use Rattle.keeper_book.specs.declared.calls.KeeperAsk.{KeeperAsk}
use Rattle.keeper_book.specs.declared.calls.KeeperAsk.TheVariants as ask
use Rattle.keeper_book.specs.declared.counters.Counter.{Counter}
use Rattle.keeper_book.specs.declared.counters.Counter.TheVariants as counter
use Rattle.keeper_book.specs.declared.counters.Five.{Five}
use Rattle.keeper_book.specs.declared.faults.KeeperFault.{KeeperFault}
use Rattle.keeper_book.specs.declared.faults.KeeperFault.TheVariants as fault
use Rattle.keeper_book.specs.declared.pools.Pool.{Pool}
use Rattle.keeper_book.specs.declared.pools.PoolNumbers.{PoolNumbers}
use Rattle.keeper_book.specs.declared.pools.TheConstants.{FIRST_POOL_NUMBER}
use Rattle.keeper_book.specs.declared.records.Record.{Record}
use Rattle.keeper_book.specs.CounterEnds.{end_of}
use Rattle.keeper_book.specs.Counters.{counter_named, five_at, with_five}
use Rattle.keeper_book.specs.Pools.{pool_number, pool_end, with_number}

-- An association in the book. Its epoch is the number of its bases: each epoch begins at the highs
-- of its time.
pub record Entry : Type 0 where
  pub sa : Record
  pub closed : Bool
  pub owner : Option ℕ
  pub bases : List Five
  pub highs : Five

-- The associations in the order in which they came, the next number of each pool, and the tickets
-- that were spent.
pub record Book : Type 0 where
  pub entries : List Entry
  pub next : PoolNumbers
  pub spent : List ℕ

abbrev pub empty : Book
empty = record {
  entries = [];
  next = record { ticket = FIRST_POOL_NUMBER; nonce = FIRST_POOL_NUMBER };
  spent = [];
}

-- the next number of a pool, by the book
abbrev pub pool_next : Pool → Book → ℕ
pool_next pool book = pool_number pool book.next

abbrev pub with_pool_next : Pool → ℕ → Book → Book
with_pool_next pool n book = record book { next = with_number pool n book.next }

abbrev pub is_spent : ℕ → List ℕ → Bool
is_spent ticket spent = list_any (λ t. t == ticket) spent

-- the association of a responder's SPI
abbrev pub entry_of : ℕ → List Entry → Option Entry
entry_of spir [] = None
entry_of spir (e ∷ es) = if e.sa.spir == spir then Some e else entry_of spir es

-- the entries with an edit of the association of a responder's SPI
abbrev pub edit_at : ℕ → (Entry → Entry) → List Entry → List Entry
edit_at spir edit [] = []
edit_at spir edit (e ∷ es) = if e.sa.spir == spir then edit e ∷ es else e ∷ edit_at spir edit es

-- the association as it is added
abbrev pub fresh : Record → Entry
fresh sa = record { sa = sa; closed = false; owner = None; bases = []; highs = sa.starts }

-- nobody may use the association any more
abbrev pub closed : Entry → Entry
closed e = record e { closed = true }

-- The highs of an association that is resumed: its IKE_AUTH is answered under Message ID 1 and
-- sealed with an IV from the start on, so that these are not used again in a later epoch.
abbrev pub settled_highs : Five → Five
settled_highs starts =
    with_five counter.Iv (max starts.iv SETTLED_IV_HIGH)
    (with_five counter.Answer (max starts.answer SETTLED_ANSWER_HIGH) starts)

-- an association as a resumption adds it: its first epoch is the member's
abbrev pub settled : Record → ℕ → Entry
settled sa member = record {
  sa = sa;
  closed = false;
  owner = Some member;
  bases = sa.starts ∷ [];
  highs = settled_highs sa.starts;
}

-- one epoch more: the highs are its bases, and the member its owner
abbrev pub taken_over : ℕ → Entry → Entry
taken_over member e = record e { owner = Some member; bases = e.bases ++ e.highs ∷ [] }

-- the high of the counter is no less than the number, as far as the counter goes
abbrev pub entry_raised : Counter → ℕ → Entry → Entry
entry_raised c upto e = record e {
  highs = with_five c
      (max (five_at e.highs c) (min upto (end_of e.sa c))) e.highs;
}

abbrev pub raised_at : Option Counter → ℕ → Entry → Entry
raised_at None upto e = e
raised_at (Some c) upto e = entry_raised c upto e

-- the first refusal whose test holds
abbrev pub when : Bool → KeeperFault → Option KeeperFault → Option KeeperFault
when true why later = Some why
when false why later = later

-- the SPIs by which an association is found: the responder's, and the one at which the cluster
-- receives
abbrev pub shares_spi : Record → Entry → Bool
shares_spi sa e = (e.sa.spir == sa.spir) || (e.sa.spi_in == sa.spi_in)

abbrev pub enter_refusal : Record → List Entry → Option KeeperFault
enter_refusal sa entries =
    when (list_any (shares_spi sa) entries) fault.SpiInUse
    (when (nat_le MAX_ASSOCIATIONS (length entries)) (fault.Full MAX_ASSOCIATIONS) None)

abbrev pub take_over_refusal : Option Entry → Option KeeperFault
take_over_refusal None = Some fault.Unknown
take_over_refusal (Some e) =
    when e.closed fault.Closed
    (when (nat_le MAX_EPOCHS (length e.bases)) (fault.Full MAX_EPOCHS) None)

abbrev pub cover_refusal : Option Entry → Option Counter → ℕ → Option KeeperFault
cover_refusal None counter epoch = Some fault.Unknown
cover_refusal (Some e) None epoch = Some fault.Unknown
cover_refusal (Some e) (Some c) epoch =
    when e.closed fault.Closed
    (when (not (epoch == length e.bases)) (fault.Replaced (length e.bases)) None)

abbrev pub lease_refusal : Pool → ℕ → PoolNumbers → Option KeeperFault
lease_refusal pool count next =
    when (nat_lt (pool_end pool) (pool_number pool next + count)) (fault.Full (pool_end pool)) None

abbrev pub settle_refusal : ℕ → Record → List ℕ → List Entry → Option KeeperFault
settle_refusal ticket sa spent entries =
    when (is_spent ticket spent) fault.Spent
    (when (list_any (shares_spi sa) entries) fault.SpiInUse
    (when (nat_le MAX_SPENT_TICKETS (length spent)) (fault.Full MAX_SPENT_TICKETS)
    (when (nat_le MAX_ASSOCIATIONS (length entries)) (fault.Full MAX_ASSOCIATIONS) None)))

-- why a call is refused, where it is: the first of its refusals that applies
abbrev pub refusal : Book → KeeperAsk → Option KeeperFault
refusal book (ask.Enter sa) = enter_refusal sa book.entries
refusal book (ask.TakeOver spir member) = take_over_refusal (entry_of spir book.entries)
refusal book (ask.Cover spir kind child epoch upto) =
    cover_refusal (entry_of spir book.entries) (counter_named kind child) epoch
refusal book (ask.Lease pool count) = lease_refusal pool count book.next
refusal book (ask.Settle ticket old_spir sa member) =
    settle_refusal ticket sa book.spent book.entries
refusal book (ask.Look ticket) = None

-- the book with the entry that a call makes
abbrev pub book_entered : Book → KeeperAsk → Book
book_entered book (ask.Enter sa) = record book { entries = book.entries ++ fresh sa ∷ [] }
book_entered book (ask.TakeOver spir member) = record book {
  entries = edit_at spir
      (taken_over member) book.entries;
}
book_entered book (ask.Cover spir kind child epoch upto) =
    record book { entries = edit_at spir (raised_at (counter_named kind child) upto) book.entries }
book_entered book (ask.Lease pool count) = with_pool_next pool (pool_next pool book + count) book
book_entered book (ask.Settle ticket old_spir sa member) = record book {
  entries = edit_at old_spir closed book.entries ++ settled sa member ∷ [];
  spent = book.spent ++ ticket ∷ [];
}
book_entered book (ask.Look ticket) = book

-- what a takeover is told: the epoch that begins, its bases, and the record
abbrev pub takeover_answer : Option Entry → KeeperAnswer
takeover_answer None = answer.Refused fault.Unknown
takeover_answer (Some e) = answer.Taken (record {
  epoch = length e.bases + 1;
  bases = e.highs;
  sa = e.sa;
})

-- what a call is answered that is not refused
abbrev pub answer_given : Book → KeeperAsk → KeeperAnswer
answer_given book (ask.Enter sa) = answer.Done
answer_given book (ask.TakeOver spir member) = takeover_answer (entry_of spir book.entries)
answer_given book (ask.Cover spir kind child epoch upto) = answer.Done
answer_given book (ask.Lease pool count) = answer.First (pool_next pool book)
answer_given book (ask.Settle ticket old_spir sa member) = answer.Done
answer_given book (ask.Look ticket) = answer.Look (is_spent ticket book.spent)

-- a value, or another one where there is a refusal
abbrev pub unless_refused : {T : Type 0} → Option KeeperFault → (KeeperFault → T) → T → T
unless_refused None refused value = value
unless_refused (Some why) refused value = refused why

-- what is answered by the book
abbrev pub answer_to : Book → KeeperAsk → KeeperAnswer
answer_to book asked = unless_refused (refusal book asked) answer.Refused (answer_given book asked)

-- the book after the answer: with the entry, or as it was where the call is refused
abbrev pub book_after : Book → KeeperAsk → Book
book_after book asked = unless_refused (refusal book asked) (λ why. book) (book_entered book asked)

-- the calls that make the book grow
abbrev pub takes_memory : KeeperAsk → Bool
takes_memory (ask.Enter sa) = true
takes_memory (ask.TakeOver spir member) = true
takes_memory (ask.Cover spir kind child epoch upto) = false
takes_memory (ask.Lease pool count) = false
takes_memory (ask.Settle ticket old_spir sa member) = true
takes_memory (ask.Look ticket) = false

-- What an answer says of the book: a failed call was entered or it was not; want of memory comes
-- where nothing else is refused, and changes nothing; any other answer is the one by the book.
abbrev pub Answers : Book → KeeperAsk → KeeperAnswer → Book → Type 0
Answers old asked (answer.Refused fault.Failed) new = (new ≡ old) ⊎ (new ≡ book_after old asked)
Answers old asked (answer.Refused fault.Memory) new =
    (takes_memory asked ≡ true) × (refusal old asked ≡ None) × (new ≡ old)
Answers old asked answered new = (answered ≡ answer_to old asked) × (new ≡ book_after old asked)

-- a call leads from one book to the next, whether or not its answer was hidden from the caller
abbrev pub Enters : Book → Call → Book → Type 0
Enters old call new = Answers old call.asked call.answer new

-- the calls in order lead from one book to another
abbrev pub EntersAll : Book → List Call → Book → Type 0
EntersAll old [] new = new ≡ old
EntersAll old (call ∷ calls) new = (mid : Book) × Enters old call mid × EntersAll mid calls new

-- the book comes from the empty one by these calls
abbrev pub StandsFor : List Call → Book → Type 0
StandsFor calls book = EntersAll empty calls book

-- a refusal as the book gives it, or want of memory where it gives none
abbrev pub RefusedAs : KeeperFault → Option KeeperFault → Type 0
RefusedAs fault.Memory refused = refused ≡ None
RefusedAs why refused = refused ≡ Some why

-- a keeper that tells its book goes on telling it, and another one does not begin to
abbrev pub EntersTold : Option Book → Call → Option Book → Type 0
EntersTold None call new = new ≡ None
EntersTold (Some old) call None = ⊥
EntersTold (Some old) call (Some new) = Enters old call new

abbrev pub EntersAllTold : Option Book → List Call → Option Book → Type 0
EntersAllTold None calls new = new ≡ None
EntersAllTold (Some old) calls None = ⊥
EntersAllTold (Some old) calls (Some new) = EntersAll old calls new
