-- The records of the book stay, and a call that is not refused adds at most the one that is entered.
use Rattle.std.proofs.Common.{◌≡◌, ℕ, ◌==◌, Bool, true, false, Option, Some, None, ⊎_elim, refl, ap, sym, ◌∙◌, subst, if◌then◌else◌}
use Rattle.std.proofs.lemmas.Bool.{eqb-true}
use Rattle.std.proofs.lemmas.Option.{same_Some}
use Rattle.std.specs.Option.{option_map}
use Rattle.keeper_book.specs.Book.{Answers, Book, Entry, book_entered, closed, entry_of, fresh, raised_at, settled, taken_over}
use Rattle.keeper_book.specs.Counters.{counter_named}
use Rattle.keeper_book.specs.declared.calls.KeeperAnswer.{KeeperAnswer}
use Rattle.keeper_book.specs.declared.calls.KeeperAsk.{KeeperAsk}
use Rattle.keeper_book.specs.declared.calls.KeeperAsk.TheVariants as ask
use Rattle.keeper_book.specs.declared.counters.Counter.{Counter}
use Rattle.keeper_book.specs.declared.records.Record.{Record}
use Rattle.turn_laws.proofs.Books.{answers-entry}
use Rattle.turn_laws.proofs.Entries.{entry-entered, entry_after}
use Rattle.turn_rules.specs.Held.{first_some}

-- the record that the book has of an association
abbrev pub record_in : Option Entry → Option Record
record_in x = option_map (λ (e : Entry). e.sa) x

abbrev pub record_of : Book → ℕ → Option Record
record_of book spir = record_in (entry_of spir book.entries)

-- and what a call that is not refused makes of it
abbrev pub record_after : ℕ → KeeperAsk → Option Record → Option Record
record_after spir (ask.Enter sa) old = first_some old (if sa.spir == spir then Some sa else None)
record_after spir (ask.TakeOver asked member) old = old
record_after spir (ask.Cover asked kind child epoch upto) old = old
record_after spir (ask.Lease pool count) old = old
record_after spir (ask.Settle ticket asked sa member) old = first_some old (if sa.spir == spir then Some sa else None)
record_after spir (ask.Look ticket) old = old

pub record-entered : (spir : ℕ) (asked : KeeperAsk) (x : Option Entry) → record_in (entry_after spir asked x) ≡ record_after spir asked (record_in x)
record-entered spir (ask.Enter sa) (Some e) = refl
record-entered spir (ask.Enter sa) None = by_test (sa.spir == spir)
  where
    by_test : (b : Bool) → record_in (if b then Some (fresh sa) else None) ≡ (if b then Some sa else None)
    by_test true = refl
    by_test false = refl
record-entered spir (ask.TakeOver asked member) x = by_test (asked == spir) x
  where
    by_test : (b : Bool) (x : Option Entry) → record_in (if b then option_map (taken_over member) x else x) ≡ record_in x
    by_test true None = refl
    by_test true (Some e) = refl
    by_test false x = refl
record-entered spir (ask.Cover asked kind child epoch upto) x = by_test (asked == spir) (counter_named kind child) x
  where
    by_test : (b : Bool) (named : Option Counter) (x : Option Entry) → record_in (if b then option_map (raised_at named upto) x else x) ≡ record_in x
    by_test true named None = refl
    by_test true None (Some e) = refl
    by_test true (Some c) (Some e) = refl
    by_test false named x = refl
record-entered spir (ask.Lease pool count) x = refl
record-entered spir (ask.Settle ticket asked sa member) x = by_test (asked == spir) (sa.spir == spir) x
  where
    by_test : (b d : Bool) (x : Option Entry) → record_in (first_some (if b then option_map closed x else x) (if d then Some (settled sa member) else None)) ≡ first_some (record_in x) (if d then Some sa else None)
    by_test true true None = refl
    by_test true false None = refl
    by_test false true None = refl
    by_test false false None = refl
    by_test true d (Some e) = refl
    by_test false d (Some e) = refl
record-entered spir (ask.Look ticket) x = refl

module _ (old : Book) where
  -- the record that was there, or the new one
  pub data IsRecordOf (sa : Record) (spir : ℕ) (r : Record) : Type 0 where
    Was : record_of old spir ≡ Some r → IsRecordOf sa spir r
    IsNow : sa.spir ≡ spir → sa ≡ r → IsRecordOf sa spir r

  pub entered-is : (sa : Record) (spir : ℕ) (r : Record) (x : Option Record) → record_of old spir ≡ x → first_some x (if sa.spir == spir then Some sa else None) ≡ Some r → IsRecordOf sa spir r
  entered-is sa spir r (Some s) e is = Was (e ∙ is)
  entered-is sa spir r None e is = by_test (sa.spir == spir) refl is
    where
      by_test : (b : Bool) → (sa.spir == spir) ≡ b → (if b then Some sa else None) ≡ Some r → IsRecordOf sa spir r
      by_test true t is = IsNow (eqb-true sa.spir spir t) (same_Some sa r is)
      by_test false t is = absurd (cc)

  kept-after : (asked : KeeperAsk) (spir : ℕ) (r : Record) → record_of old spir ≡ Some r → record_after spir asked (record_of old spir) ≡ Some r
  kept-after (ask.Enter sa) spir r is = ap (λ x. first_some x (if sa.spir == spir then Some sa else None)) is
  kept-after (ask.TakeOver asked member) spir r is = is
  kept-after (ask.Cover asked kind child epoch upto) spir r is = is
  kept-after (ask.Lease pool count) spir r is = is
  kept-after (ask.Settle ticket asked sa member) spir r is = ap (λ x. first_some x (if sa.spir == spir then Some sa else None)) is
  kept-after (ask.Look ticket) spir r is = is

  module _ (new : Book) (asked : KeeperAsk) (answered : KeeperAnswer) (answers : Answers old asked answered new) where
    pub records-after : new ≡ book_entered old asked → (spir : ℕ) → record_of new spir ≡ record_after spir asked (record_of old spir)
    records-after is spir = ap (λ (b : Book). record_of b spir) is ∙ (ap record_in (entry-entered spir old asked) ∙ record-entered spir asked (entry_of spir old.entries))

    pub records-kept : (spir : ℕ) (r : Record) → record_of old spir ≡ Some r → record_of new spir ≡ Some r
    records-kept spir r is = ⊎_elim
        (λ same. ap (λ (b : Book). record_of b spir) same ∙ is)
        (λ has. records-after has.is spir ∙ kept-after asked spir r is)
        (answers-entry old new asked answered answers)

  -- what each record of the book is it still is, where what a call adds is so
  module _ (P : Record → Type 0) where
    abbrev pub IsOfAdded : KeeperAsk → Type 0
    IsOfAdded (ask.Enter sa) = P sa
    IsOfAdded (ask.Settle ticket asked sa member) = P sa
    IsOfAdded asked = Unit {0}

    of-entered : (sa : Record) → P sa → (spir : ℕ) (r : Record) → (record_of old spir ≡ Some r → P r) → IsRecordOf sa spir r → P r
    of-entered sa may spir r before (Was was) = before was
    of-entered sa may spir r before (IsNow at same) = subst P same may

    of-after : (asked : KeeperAsk) → IsOfAdded asked → (spir : ℕ) (r : Record) → (record_of old spir ≡ Some r → P r) → record_after spir asked (record_of old spir) ≡ Some r → P r
    of-after (ask.Enter sa) may spir r before is = of-entered sa may spir r before (entered-is sa spir r (record_of old spir) refl is)
    of-after (ask.TakeOver asked member) may spir r before is = before is
    of-after (ask.Cover asked kind child epoch upto) may spir r before is = before is
    of-after (ask.Lease pool count) may spir r before is = before is
    of-after (ask.Settle ticket asked sa member) may spir r before is = of-entered sa may spir r before (entered-is sa spir r (record_of old spir) refl is)
    of-after (ask.Look ticket) may spir r before is = before is

    pub of-kept : (new : Book) (asked : KeeperAsk) (answered : KeeperAnswer) → Answers old asked answered new → (new ≡ book_entered old asked → IsOfAdded asked) → (spir : ℕ) (r : Record) → (record_of old spir ≡ Some r → P r) → record_of new spir ≡ Some r → P r
    of-kept new asked answered answers may spir r before is = ⊎_elim
        (λ same. before (sym (ap (λ (b : Book). record_of b spir) same) ∙ is))
        (λ has. of-after asked (may has.is) spir r before (sym (records-after new asked answered answers has.is spir) ∙ is))
        (answers-entry old new asked answered answers)

-- the entry of a record
pub entry-record : (x : Option Entry) (r : Record) → record_in x ≡ Some r → (e : Entry) × (x ≡ Some e) × (e.sa ≡ r)
entry-record None r is = absurd (cc)
entry-record (Some e) r is = (e, refl, same_Some e.sa r is)
