-- What the answer to a call shows of the book, and that every call keeps the numbers of each counter apart.
use Rattle.turn_rules.specs.Held.{first_some}
use Rattle.std.proofs.Common.{◌≡◌, ℕ, ◌+◌, ◌≤◌, ◌==◌, ◌⊎◌, inl, inr, min, max, not, Bool, true, false, Option, Some, None, List, [], ◌∷◌, length, map, ⊎_elim, refl, ap, sym, ◌∙◌, subst, arith, if◌then◌else◌}
use Rattle.std.specs.Prelude.{nat_le}
use Rattle.std.proofs.lemmas.Bool.{eqb-true, or_parts, eq-eqb}
use Rattle.std.proofs.lemmas.List.{length-map}
use Rattle.std.specs.List.{list_any}
use Rattle.std.specs.Option.{option_map}
use Rattle.keeper_book.specs.Book.{pool_next, Answers, Book, Entry, book_after, cover_refusal, enter_refusal, book_entered, entry_of, entry_raised, raised_at, refusal, shares_spi, takeover_answer, taken_over, unless_refused, when, settle_refusal, settled, is_spent, closed}
use Rattle.keeper_book.specs.CounterEnds.{end_of}
use Rattle.keeper_book.specs.Counters.{five_at}
use Rattle.keeper_book.specs.declared.TheConstants.{MAX_ASSOCIATIONS, MAX_SPENT_TICKETS}
use Rattle.keeper_book.specs.declared.calls.KeeperAnswer.{KeeperAnswer}
use Rattle.keeper_book.specs.declared.calls.KeeperAnswer.TheVariants as answer
use Rattle.keeper_book.specs.declared.calls.KeeperAsk.{KeeperAsk}
use Rattle.keeper_book.specs.declared.calls.KeeperAsk.TheVariants as ask
use Rattle.keeper_book.specs.declared.counters.Counter.{Counter}
use Rattle.keeper_book.specs.declared.faults.KeeperFault.{KeeperFault}
use Rattle.keeper_book.specs.declared.faults.KeeperFault.TheVariants as fault
use Rattle.keeper_book.specs.declared.records.Record.{Record}
use Rattle.keeper_book.specs.declared.records.Taken.{Taken}
use Rattle.turn_laws.proofs.Columns.{goes_on-higher, goes_on-refl, mark-high}
use Rattle.turn_laws.proofs.Entries.{IsFreeFor, entry_after, entry-entered, five_at-with_five, goes_on-ours, is_counter-same, new-taken_over}
use Rattle.turn_laws.specs.Acts.{holding_begun}
use Rattle.turn_laws.specs.Columns.{Column, ColumnGoesOn, IsRising, column_mark}
use Rattle.turn_laws.specs.Holdings.{IsNew}
use Rattle.turn_laws.proofs.Pools.{pool-entered}
use Rattle.turn_laws.specs.Places.{Ours, Place, Pooled, Theirs, column, column_ours}

-- the book is as it was, or has the entry of a call that is not refused
pub record HasEntry (old : Book) (asked : KeeperAsk) (new : Book) : Type 0 where
  pub granted : refusal old asked ≡ None
  pub is : new ≡ book_entered old asked

after-cases : (old new : Book) (asked : KeeperAsk) (r : Option KeeperFault) → refusal old asked ≡ r → new ≡ unless_refused r (λ why. old) (book_entered old asked) → (new ≡ old) ⊎ HasEntry old asked new
after-cases old new asked None e is = inr (record { granted = e; is = is })
after-cases old new asked (Some why) e is = inl is

after-entry : (old new : Book) (asked : KeeperAsk) → new ≡ book_after old asked → (new ≡ old) ⊎ HasEntry old asked new
after-entry old new asked is = after-cases old new asked (refusal old asked) refl is

pub answers-entry : (old new : Book) (asked : KeeperAsk) (answered : KeeperAnswer) → Answers old asked answered new → (new ≡ old) ⊎ HasEntry old asked new
answers-entry old new asked (answer.Refused fault.Failed) a = ⊎_elim (λ same. inl same) (λ is. after-entry old new asked is) a
answers-entry old new asked (answer.Refused fault.Memory) a = inl a.2
answers-entry old new asked answered a = after-entry old new asked a.1

-- what is half open stands in the way of no call
abbrev pub IsFree : Place → KeeperAsk → Column → Type 0
IsFree (Ours spir c) asked begun = IsFreeFor c asked spir begun
IsFree p asked begun = Unit {0}

module _ (old : Book) (asked : KeeperAsk) where
  column-entered : (p : Place) (begun : Column) → IsFree p asked begun → IsRising (column p begun old) → ColumnGoesOn (column p begun old) (column p begun (book_entered old asked))
  column-entered (Ours spir c) begun free rising = subst (λ o. ColumnGoesOn (column (Ours spir c) begun old) (column_ours c begun o)) (sym (entry-entered spir old asked)) (goes_on-ours c begun spir asked free (entry_of spir old.entries) rising)
  column-entered (Theirs name) begun free rising = goes_on-refl begun rising
  column-entered (Pooled q) begun free rising = goes_on-higher (column (Pooled q) begun old) (pool_next q (book_entered old asked)) rising (pool-entered q old asked)

-- Whatever a call is answered, every column goes on.
pub column-goes_on : (old new : Book) (asked : KeeperAsk) (answered : KeeperAnswer) → Answers old asked answered new → (p : Place) (begun : Column) → IsFree p asked begun → IsRising (column p begun old) → ColumnGoesOn (column p begun old) (column p begun new)
column-goes_on old new asked answered a p begun free rising = ⊎_elim
    (λ same. subst (λ b. ColumnGoesOn (column p begun old) (column p begun b)) (sym same) (goes_on-refl (column p begun old) rising))
    (λ has. subst (λ b. ColumnGoesOn (column p begun old) (column p begun b)) (sym has.is) (column-entered old asked p begun free rising))
    (answers-entry old new asked answered a)

-- what a takeover that was granted shows
pub record ShowsTaken (taken : Taken) (x : Option Entry) (r : Option KeeperFault) : Type 0 where
  pub entry : Entry
  pub found : x ≡ Some entry
  pub granted : r ≡ None
  pub is : taken ≡ record { epoch = length entry.bases + 1; bases = entry.highs; sa = entry.sa }

pub shows-taken : (taken : Taken) (x : Option Entry) (r : Option KeeperFault) → answer.Taken taken ≡ unless_refused r answer.Refused (takeover_answer x) → ShowsTaken taken x r
shows-taken taken (Some e) None is = record { entry = e; found = refl; granted = refl; is = cc }
shows-taken taken None None is = absurd (cc)
shows-taken taken x (Some why) is = absurd (cc)

pub shows-done : (r : Option KeeperFault) → answer.Done ≡ unless_refused r answer.Refused answer.Done → r ≡ None
shows-done None is = refl
shows-done (Some why) is = absurd (cc)

-- what a settle that was granted shows
settle-unshared : (sa : Record) (spent shared : Bool) (later : Option KeeperFault) → when spent fault.Spent (when shared fault.SpiInUse later) ≡ None → shared ≡ false
settle-unshared sa true shared later none = absurd (cc)
settle-unshared sa false true later none = absurd (cc)
settle-unshared sa false false later none = refl

-- what a lease that was granted shows
pub record ShowsFirst (r : Option KeeperFault) (first next : ℕ) : Type 0 where
  pub granted : r ≡ None
  pub is_next : first ≡ next

pub shows-first : (r : Option KeeperFault) (first next : ℕ) → answer.First first ≡ unless_refused r answer.Refused (answer.First next) → ShowsFirst r first next
shows-first None first next is = record { granted = refl; is_next = cc }
shows-first (Some why) first next is = absurd (cc)

-- what a cover that was granted shows
pub record ShowsCovered (x : Option Entry) (c : Option Counter) (epoch : ℕ) : Type 0 where
  pub entry : Entry
  pub found : x ≡ Some entry
  pub is_last : epoch ≡ length entry.bases

pub shows-covered : (x : Option Entry) (c : Option Counter) (epoch : ℕ) → cover_refusal x c epoch ≡ None → ShowsCovered x c epoch
shows-covered None c epoch none = absurd (cc)
shows-covered (Some e) None epoch none = absurd (cc)
shows-covered (Some e) (Some c) epoch none = by_test e.closed (epoch == length e.bases) refl none
  where
    by_test : (closed last : Bool) → (epoch == length e.bases) ≡ last → when closed fault.Closed (when (not last) (fault.Replaced (length e.bases)) None) ≡ None → ShowsCovered (Some e) (Some c) epoch
    by_test true last t none = absurd (cc)
    by_test false false t none = absurd (cc)
    by_test false true t none = record { entry = e; found = refl; is_last = eqb-true epoch (length e.bases) t }

-- where no association shares an SPI, none is found at the responder's
none-shared : (sa : Record) (es : List Entry) → list_any (shares_spi sa) es ≡ false → entry_of sa.spir es ≡ None
none-shared sa [] none = refl
none-shared sa (e ∷ es) none = go (or_parts (shares_spi sa e) (list_any (shares_spi sa) es) none) (none-shared sa es)
  where
    go : (shares_spi sa e ≡ false) × (list_any (shares_spi sa) es ≡ false) → (list_any (shares_spi sa) es ≡ false → entry_of sa.spir es ≡ None) → (if e.sa.spir == sa.spir then Some e else entry_of sa.spir es) ≡ None
    go parts rest =
        let differs : (e.sa.spir == sa.spir) ≡ false = (or_parts (e.sa.spir == sa.spir) (e.sa.spi_in == sa.spi_in) parts.0).0 in
        rw differs (rest parts.1)

pub shows-entered : (sa : Record) (es : List Entry) → enter_refusal sa es ≡ None → entry_of sa.spir es ≡ None
shows-entered sa es none = by_test (list_any (shares_spi sa) es) refl none
  where
    by_test : (b : Bool) → list_any (shares_spi sa) es ≡ b → when b fault.SpiInUse (when (nat_le MAX_ASSOCIATIONS (length es)) (fault.Full MAX_ASSOCIATIONS) None) ≡ None → entry_of sa.spir es ≡ None
    by_test true t none = absurd (cc)
    by_test false t none = none-shared sa es t

pub shows-settled : (ticket : ℕ) (sa : Record) (spent : List ℕ) (es : List Entry) → settle_refusal ticket sa spent es ≡ None → entry_of sa.spir es ≡ None
shows-settled ticket sa spent es none = none-shared sa es
    (settle-unshared sa (is_spent ticket spent) (list_any (shares_spi sa) es) (when (nat_le MAX_SPENT_TICKETS (length spent)) (fault.Full MAX_SPENT_TICKETS) (when (nat_le MAX_ASSOCIATIONS (length es)) (fault.Full MAX_ASSOCIATIONS) None)) none)

-- the book has the entry where a call was granted
pub after-granted : (old new : Book) (asked : KeeperAsk) → refusal old asked ≡ None → new ≡ book_after old asked → new ≡ book_entered old asked
after-granted old new asked granted is = is ∙ ap (λ r. unless_refused r (λ why. old) (book_entered old asked)) granted

module _ (old new : Book) (begun : Column) where
  -- a takeover that was granted begins a holding of a new epoch
  pub keeps-taken : (spir : ℕ) (c : Counter) (member : ℕ) (taken : Taken) → Answers old (ask.TakeOver spir member) (answer.Taken taken) new → IsNew (column (Ours spir c) begun old) (column (Ours spir c) begun new) (holding_begun c taken)
  keeps-taken spir c member taken a = go (shows-taken taken (entry_of spir old.entries) (refusal old (ask.TakeOver spir member)) a.0)
    where
      go : ShowsTaken taken (entry_of spir old.entries) (refusal old (ask.TakeOver spir member)) → IsNew (column (Ours spir c) begun old) (column (Ours spir c) begun new) (holding_begun c taken)
      go shows =
          let here : (spir == spir) ≡ true = eq-eqb spir spir refl in
          let now : entry_of spir new.entries ≡ Some (taken_over member shows.entry) =
          ap (λ (b : Book). entry_of spir b.entries) (after-granted old new (ask.TakeOver spir member) shows.granted a.1)
          ∙ (entry-entered spir old (ask.TakeOver spir member)
          ∙ (ap (λ b. if b then option_map (taken_over member) (entry_of spir old.entries) else entry_of spir old.entries) here
          ∙ ap (option_map (taken_over member)) shows.found)) in
          subst (λ o. IsNew (column (Ours spir c) begun old) (column_ours c begun o) (holding_begun c taken)) (sym now)
          (subst (λ o. IsNew (column_ours c begun o) (column_ours c begun (Some (taken_over member shows.entry))) (holding_begun c taken)) (sym shows.found)
          (subst (λ t. IsNew (column_ours c begun (Some shows.entry)) (column_ours c begun (Some (taken_over member shows.entry))) (holding_begun c t)) (sym shows.is)
          (new-taken_over c member shows.entry)))

  -- a settle that was granted adds its association
  pub settled-in : (ticket asked : ℕ) (sa : Record) (member : ℕ) → Answers old (ask.Settle ticket asked sa member) answer.Done new → (entry_of sa.spir old.entries ≡ None) × (entry_of sa.spir new.entries ≡ Some (settled sa member))
  settled-in ticket asked sa member a = (was, ap (λ (b : Book). entry_of sa.spir b.entries) (after-granted old new (ask.Settle ticket asked sa member) granted a.1) ∙ (entry-entered sa.spir old (ask.Settle ticket asked sa member) ∙ now))
    where
      granted : refusal old (ask.Settle ticket asked sa member) ≡ None
      granted = shows-done (refusal old (ask.Settle ticket asked sa member)) a.0

      was : entry_of sa.spir old.entries ≡ None
      was = shows-settled ticket sa old.spent old.entries granted

      by_test : (b : Bool) → first_some (if b then option_map closed None else None) (Some (settled sa member)) ≡ Some (settled sa member)
      by_test true = refl
      by_test false = refl

      now : first_some (if asked == sa.spir then option_map closed (entry_of sa.spir old.entries) else entry_of sa.spir old.entries) (if sa.spir == sa.spir then Some (settled sa member) else None) ≡ Some (settled sa member)
      now = let here : (sa.spir == sa.spir) ≡ true = eq-eqb sa.spir sa.spir refl in rw (here, was) (by_test (asked == sa.spir))

  -- a cover that was granted leaves no lower high
  pub keeps-covered : (spir : ℕ) (c : Counter) (asked : KeeperAsk) (named : Option Counter) (epoch upto : ℕ) → refusal old asked ≡ cover_refusal (entry_of spir old.entries) named epoch → named ≡ Some c → entry_after spir asked (entry_of spir old.entries) ≡ option_map (raised_at named upto) (entry_of spir old.entries) → upto ≤ (column (Ours spir c) begun old).end → answer.Done ≡ unless_refused (refusal old asked) answer.Refused answer.Done → new ≡ book_after old asked → upto ≤ column_mark (column (Ours spir c) begun new) epoch
  keeps-covered spir c asked named epoch upto refused is edits below answered enters =
      let granted : refusal old asked ≡ None = shows-done (refusal old asked) answered in
      go granted (shows-covered (entry_of spir old.entries) named epoch (sym refused ∙ granted))
    where
      go : refusal old asked ≡ None → ShowsCovered (entry_of spir old.entries) named epoch → upto ≤ column_mark (column (Ours spir c) begun new) epoch
      go granted shows =
          let inside : upto ≤ end_of shows.entry.sa c = subst (λ o. upto ≤ (column_ours c begun o).end) shows.found below in
          let now : entry_of spir new.entries ≡ Some (entry_raised c upto shows.entry) =
          ap (λ (b : Book). entry_of spir b.entries) (after-granted old new asked granted enters)
          ∙ (entry-entered spir old asked
          ∙ (edits
          ∙ (ap (option_map (raised_at named upto)) shows.found
          ∙ ap (λ d. Some (raised_at d upto shows.entry)) is))) in
          let top : column_mark (column_ours c begun (Some (entry_raised c upto shows.entry))) epoch ≡ five_at (entry_raised c upto shows.entry).highs c =
          mark-high (column_ours c begun (Some (entry_raised c upto shows.entry))) epoch (let a : length (map (λ five. five_at five c) shows.entry.bases) ≡ length shows.entry.bases = length-map shows.entry.bases (λ five. five_at five c) in let b : epoch ≡ length shows.entry.bases = shows.is_last in omega arith) in
          let high : five_at (entry_raised c upto shows.entry).highs c ≡ max (five_at shows.entry.highs c) (min upto (end_of shows.entry.sa c)) =
          five_at-with_five c c (max (five_at shows.entry.highs c) (min upto (end_of shows.entry.sa c))) shows.entry.highs
          ∙ ap (λ b. if b then max (five_at shows.entry.highs c) (min upto (end_of shows.entry.sa c)) else five_at shows.entry.highs c) (is_counter-same c) in
          subst (λ o. upto ≤ column_mark (column_ours c begun o) epoch) (sym now) (omega arith)
