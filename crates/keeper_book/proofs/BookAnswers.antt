-- What a keeper in memory answers is what the book says.
use Rattle.std.proofs.Common.{◌≡◌, ℕ, ◌<◌, ◌≤◌, nat_le, length, not, ◌==◌, Bool, true, false, List, [], ◌∷◌, ◌++◌, Option, Some, None, Result, Ok, Err, get_or, refl, ap, sym, subst, ◌∙◌, arith, ⊎_elim, inl}
use Rattle.std.proofs.Math.ListN.{set}
use Rattle.std.proofs.lemmas.List.{set-get_or}
use Rattle.std.specs.Result.{IfOk, IfErr}
use Rattle.std.specs.List.{list_any}
use Rattle.std.proofs.lemmas.Bool.{le-leb}
use Rattle.std.proofs.lemmas.Bool.Decides.{leb_tells}
use Rattle.keeper_book.specs.declared.calls.Call.{Call}
use Rattle.keeper_book.specs.declared.calls.KeeperAnswer.{KeeperAnswer}
use Rattle.keeper_book.specs.declared.calls.KeeperAnswer.TheVariants as answer
use Rattle.keeper_book.specs.declared.calls.KeeperAsk.{KeeperAsk}
use Rattle.keeper_book.specs.declared.calls.KeeperAsk.TheVariants as ask
use Rattle.keeper_book.specs.declared.counters.Counter.{Counter}
use Rattle.keeper_book.specs.declared.faults.KeeperFault.{KeeperFault}
use Rattle.keeper_book.specs.declared.faults.KeeperFault.TheVariants as fault
use Rattle.keeper_book.specs.Book.{Book, Entry, Answers, RefusedAs, book_after, answer_to, cover_refusal, edit_at, enter_refusal, book_entered, entry_of, fresh, answer_given, raised_at, refusal, shares_spi, take_over_refusal, takeover_answer, taken_over, takes_memory, unless_refused, when}
use Rattle.keeper_book.specs.Counters.{AreWithinEnds, counter_named}
use Rattle.keeper_book.specs.Entries.{IsPlaceOf}
use Rattle.keeper_book.specs.declared.TheConstants.{MAX_ASSOCIATIONS, MAX_EPOCHS}
use Rattle.keeper_book.specs.declared.pools.PoolNumbers.{PoolNumbers}
use Rattle.keeper_book.specs.declared.records.Record.{Record}
use Rattle.keeper_book.specs.declared.records.Taken.{Taken}
use Rattle.ha_base.specs.declared.counter_names.Kind.{Kind}
use Rattle.keeper_book.proofs.EntryLemmas.{entry_at, edited_at}
use Rattle.keeper_book.specs.Spoken.{Spoken}
use Rattle.keeper_book.specs.Told.{IsAnswerOf, IsCallOf, IsFailed, IsRefusalOf, done, taken_answer}
use Rattle.keeper_book.proofs.Passed.{recorded}

-- a book by its parts, as the keeper has them
abbrev pub book_of : PoolNumbers → List ℕ → List Entry → Book
book_of next spent es = record { entries = es; next = next; spent = spent }

-- refused by name, or for want of memory where nothing else is refused
pub refused_answers : (old : Book) (asked : KeeperAsk) (why : KeeperFault) → takes_memory asked ≡ true → RefusedAs why (refusal old asked) → Answers old asked (answer.Refused why) old
refused_answers old asked fault.Failed m r = inl refl
refused_answers old asked fault.Memory m r = (m, r, refl)
refused_answers old asked why m r = (sym (ap (λ o. unless_refused o answer.Refused (answer_given old asked)) r), sym (ap (λ o. unless_refused o (λ _. old) (book_entered old asked)) r))

-- refused by name
pub refused_by_name : (old : Book) (asked : KeeperAsk) (why : KeeperFault) → (refusal old asked ≡ Some fault.Memory → ⊥) → refusal old asked ≡ Some why → Answers old asked (answer.Refused why) old
refused_by_name old asked fault.Failed m r = inl refl
refused_by_name old asked fault.Memory m r = absurd (m r)
refused_by_name old asked why m r = (sym (ap (λ o. unless_refused o answer.Refused (answer_given old asked)) r), sym (ap (λ o. unless_refused o (λ _. old) (book_entered old asked)) r))

-- not refused
pub granted : (old : Book) (asked : KeeperAsk) (answered : KeeperAnswer) (new : Book) → refusal old asked ≡ None → answered ≡ answer_given old asked → new ≡ book_entered old asked → (answered ≡ answer_to old asked) × (new ≡ book_after old asked)
granted old asked answered new r a n =
    (a ∙ sym (ap (λ o. unless_refused o answer.Refused (answer_given old asked)) r), n ∙ sym (ap (λ o. unless_refused o (λ _. old) (book_entered old asked)) r))

-- an association is added, or it is not
unless_shared : (sa : Record) (es : List Entry) → list_any (shares_spi sa) es ≡ false → length es < MAX_ASSOCIATIONS → enter_refusal sa es ≡ None
unless_shared sa es other few =
    let room : nat_le MAX_ASSOCIATIONS (length es) ≡ false = ⊎_elim (λ t. absurd (omega (arith, t.1))) (λ t. t.0) (leb_tells MAX_ASSOCIATIONS (length es)) in
    rw (other, room)

module _ (next : PoolNumbers) (spent : List ℕ) where
  pub enter_shared : (sa : Record) (es : List Entry) (old : Book) → (book_of next spent es) ≡ old → list_any (shares_spi sa) es ≡ true → Answers old (ask.Enter sa) (answer.Refused fault.SpiInUse) old
  enter_shared sa es old view shared =
      subst (λ b. Answers b (ask.Enter sa) (answer.Refused fault.SpiInUse) b) view (refused_answers (book_of next spent es) (ask.Enter sa) fault.SpiInUse refl (rw shared))

  pub enter_full : (sa : Record) (es : List Entry) (old : Book) → (book_of next spent es) ≡ old → list_any (shares_spi sa) es ≡ false → MAX_ASSOCIATIONS ≤ length es → Answers old (ask.Enter sa) (answer.Refused (fault.Full MAX_ASSOCIATIONS)) old
  enter_full sa es old view other many =
      let full : nat_le MAX_ASSOCIATIONS (length es) ≡ true = le-leb _ _ many in
      subst (λ b. Answers b (ask.Enter sa) (answer.Refused (fault.Full MAX_ASSOCIATIONS)) b) view (refused_answers (book_of next spent es) (ask.Enter sa) (fault.Full MAX_ASSOCIATIONS) refl (rw (other, full)))

  pub enter_memory : (sa : Record) (es : List Entry) (old : Book) → (book_of next spent es) ≡ old → list_any (shares_spi sa) es ≡ false → length es < MAX_ASSOCIATIONS → Answers old (ask.Enter sa) (answer.Refused fault.Memory) old
  enter_memory sa es old view other few =
      subst (λ b. Answers b (ask.Enter sa) (answer.Refused fault.Memory) b) view (refused_answers (book_of next spent es) (ask.Enter sa) fault.Memory refl (unless_shared sa es other few))

  pub enter_done : (sa : Record) (es : List Entry) (old new : Book) → (book_of next spent es) ≡ old → list_any (shares_spi sa) es ≡ false → length es < MAX_ASSOCIATIONS → (book_of next spent (es ++ fresh sa ∷ [])) ≡ new → Answers old (ask.Enter sa) answer.Done new
  enter_done sa es old new view other few added =
      subst (λ b. Answers b (ask.Enter sa) answer.Done new) view (granted (book_of next spent es) (ask.Enter sa) answer.Done new (unless_shared sa es other few) refl (sym added))

-- a call of a keeper that tells its book and nothing else, and never fails
pub memory_call : (old new : Book) (asked : KeeperAsk) (answered : KeeperAnswer) → Answers old asked answered new → (IsFailed answered → ⊥) → IsAnswerOf asked answered → (x : Call) × IsCallOf asked answered x × Spoken {K = Book} (λ book. Some book) (λ _. None) (λ _. 0) (λ _ _ _. Unit {0}) old (x ∷ []) new
memory_call old new asked answered a sound promised = (
  recorded asked answered,
  record { asks = refl; sees = refl },
  record {
    enters = (new, a, refl);
    adds = tt;
    cause = record { later = omega arith; failed = ⊎_elim (λ f. absurd (sound f)) (λ none. absurd none) };
    answers = (promised, tt);
    each = (new, tt, refl);
  },
)

-- no cover is refused for want of memory
refused_cover : (e : Entry) (c : Option Counter) (epoch : ℕ) → cover_refusal (Some e) c epoch ≡ Some fault.Memory → ⊥
refused_cover e None epoch r = cc
refused_cover e (Some c) epoch r = by_tests e.closed (not (epoch == length e.bases)) r
  where
    by_tests : (closed replaced : Bool) → when closed fault.Closed (when replaced (fault.Replaced (length e.bases)) None) ≡ Some fault.Memory → ⊥
    by_tests true replaced r = cc
    by_tests false true r = cc
    by_tests false false r = cc

module _ (next : PoolNumbers) (spent : List ℕ) where
  -- an association that is written back unchanged
  same_book : (es : List Entry) (new : Book) (place : ℕ) (e e' : Entry) → (book_of next spent (set es place e')) ≡ new → e ≡ get_or es place e → e' ≡ e → (book_of next spent es) ≡ new
  same_book es new place e e' left at same = ap (λ xs. (book_of next spent xs)) (sym (ap (set es place) (same ∙ at) ∙ set-get_or es place e)) ∙ left

  -- an association that is edited
  edited_book : (es : List Entry) (new : Book) (spir place : ℕ) (edit : Entry → Entry) (e e' : Entry) → (book_of next spent (set es place e')) ≡ new → IsPlaceOf spir place es → e ≡ get_or es place e → e' ≡ edit e → new ≡ (book_of next spent (edit_at spir edit es))
  edited_book es new spir place edit e e' left is at same = sym left ∙ ap (λ xs. (book_of next spent xs)) (ap (set es place) same ∙ sym (edited_at spir place edit es e is at))

  -- a takeover, by what the association says of it
  pub took_over : (es : List Entry) (old new : Book) (spir member place : ℕ) (e e' : Entry) (result : Result Taken KeeperFault) → (book_of next spent es) ≡ old → (book_of next spent (set es place e')) ≡ new → IsPlaceOf spir place es → e ≡ get_or es place e
      → IfOk result (λ t. (take_over_refusal (Some e) ≡ None) × (taken_answer result ≡ takeover_answer (Some e)) × (e' ≡ taken_over member e)) → IfErr result (λ why. RefusedAs why (take_over_refusal (Some e)) × (e' ≡ e)) → Answers old (ask.TakeOver spir member) (taken_answer result) new
  took_over es old new spir member place e e' (Ok t) view left is at ok err =
      let found : entry_of spir es ≡ Some e = entry_at spir place es e is at in
      subst (λ b. Answers b (ask.TakeOver spir member) (answer.Taken t) new) view
      (granted (book_of next spent es) (ask.TakeOver spir member) (answer.Taken t) new (ap take_over_refusal found ∙ ok.0) (ok.1 ∙ sym (ap takeover_answer found)) (edited_book es new spir place (taken_over member) e e' left is at ok.2))
  took_over es old new spir member place e e' (Err why) view left is at ok err =
      let found : entry_of spir es ≡ Some e = entry_at spir place es e is at in
      subst (λ b. Answers b (ask.TakeOver spir member) (answer.Refused why) new) view
      (subst (λ n. Answers (book_of next spent es) (ask.TakeOver spir member) (answer.Refused why) n) (same_book es new place e e' left at err.1)
      (refused_answers (book_of next spent es) (ask.TakeOver spir member) why refl (subst (λ o. RefusedAs why (take_over_refusal o)) (sym found) err.0)))

  -- a cover, by what the association says of it
  pub covered : (es : List Entry) (old new : Book) (spir : ℕ) (kind : Kind) (child epoch upto place : ℕ) (e e' : Entry) (result : Result (Unit {0}) KeeperFault) → (book_of next spent es) ≡ old → (book_of next spent (set es place e')) ≡ new → IsPlaceOf spir place es → e ≡ get_or es place e
      → IfOk result (λ _. (cover_refusal (Some e) (counter_named kind child) epoch ≡ None) × (e' ≡ raised_at (counter_named kind child) upto e)) → IfErr result (λ why. (cover_refusal (Some e) (counter_named kind child) epoch ≡ Some why) × (e' ≡ e)) → Answers old (ask.Cover spir kind child epoch upto) (done result) new
  covered es old new spir kind child epoch upto place e e' (Ok unit) view left is at ok err =
      let found : entry_of spir es ≡ Some e = entry_at spir place es e is at in
      subst (λ b. Answers b (ask.Cover spir kind child epoch upto) answer.Done new) view
      (granted (book_of next spent es) (ask.Cover spir kind child epoch upto) answer.Done new (ap (λ o. cover_refusal o (counter_named kind child) epoch) found ∙ ok.0) refl (edited_book es new spir place (raised_at (counter_named kind child) upto) e e' left is at ok.1))
  covered es old new spir kind child epoch upto place e e' (Err why) view left is at ok err =
      let found : entry_of spir es ≡ Some e = entry_at spir place es e is at in
      let refused : cover_refusal (entry_of spir es) (counter_named kind child) epoch ≡ cover_refusal (Some e) (counter_named kind child) epoch = ap (λ o. cover_refusal o (counter_named kind child) epoch) found in
      subst (λ b. Answers b (ask.Cover spir kind child epoch upto) (answer.Refused why) new) view
      (subst (λ n. Answers (book_of next spent es) (ask.Cover spir kind child epoch upto) (answer.Refused why) n) (same_book es new place e e' left at err.1)
      (refused_by_name (book_of next spent es) (ask.Cover spir kind child epoch upto) why (λ m. refused_cover e (counter_named kind child) epoch (sym refused ∙ m)) (refused ∙ err.0)))

-- an association that is not there
pub unknown : (old : Book) (asked : KeeperAsk) → (refusal old asked ≡ Some fault.Unknown) → Answers old asked (answer.Refused fault.Unknown) old
unknown old asked r = refused_by_name old asked fault.Unknown (λ m. absurd (cc)) r

-- what the association answers is what a keeper promises
pub took_over_promised : (spir member own : ℕ) (result : Result Taken KeeperFault) → own ≡ spir → IfErr result (IsRefusalOf (ask.TakeOver own member)) → IfOk result (λ t. t.sa.spir ≡ own) → IfOk result (λ t. AreWithinEnds t.bases) → IsAnswerOf (ask.TakeOver spir member) (taken_answer result)
took_over_promised spir member own (Ok t) same refusals asked within = record { asked = asked ∙ same; within = within }
took_over_promised spir member own (Err why) same refusals asked within = subst (λ n. IsRefusalOf (ask.TakeOver n member) why) same refusals

pub covered_promised : (spir : ℕ) (kind : Kind) (child epoch upto own : ℕ) (result : Result (Unit {0}) KeeperFault) → own ≡ spir → IfErr result (IsRefusalOf (ask.Cover own kind child epoch upto)) → IsAnswerOf (ask.Cover spir kind child epoch upto) (done result)
covered_promised spir kind child epoch upto own (Ok unit) same refusals = tt
covered_promised spir kind child epoch upto own (Err why) same refusals = subst (λ n. IsRefusalOf (ask.Cover n kind child epoch upto) why) same refusals

-- no refusal by name is that the call failed
by_tests_failed : (first second : Bool) (why later : KeeperFault) → (why ≡ fault.Failed → ⊥) → (later ≡ fault.Failed → ⊥) → when first why (when second later None) ≡ Some fault.Failed → ⊥
by_tests_failed true second why later a b r = a (cc)
by_tests_failed false true why later a b r = b (cc)
by_tests_failed false false why later a b r = cc

-- neither a takeover nor a cover fails
pub took_over_soundly : (e : Entry) (result : Result Taken KeeperFault) (P : KeeperFault → Type 0) → IfErr result (λ why. RefusedAs why (take_over_refusal (Some e)) × P why) → IsFailed (taken_answer result) → ⊥
took_over_soundly e (Ok t) P err f = f
took_over_soundly e (Err fault.Failed) P err f = by_tests_failed e.closed (nat_le MAX_EPOCHS (length e.bases)) fault.Closed (fault.Full MAX_EPOCHS) (λ h. cc) (λ h. cc) err.0
took_over_soundly e (Err why) P err f = f

pub covered_soundly : (e : Entry) (c : Option Counter) (epoch : ℕ) (result : Result (Unit {0}) KeeperFault) (P : KeeperFault → Type 0) → IfErr result (λ why. (cover_refusal (Some e) c epoch ≡ Some why) × P why) → IsFailed (done result) → ⊥
covered_soundly e c epoch (Ok unit) P err f = f
covered_soundly e None epoch (Err fault.Failed) P err f = let r = err.0 in cc
covered_soundly e (Some c) epoch (Err fault.Failed) P err f = by_tests_failed e.closed (not (epoch == length e.bases)) fault.Closed (fault.Replaced (length e.bases)) (λ h. cc) (λ h. cc) err.0
covered_soundly e c epoch (Err why) P err f = f
