-- No call, one call, and calls after calls.
use Rattle.std.proofs.Common.{◌≡◌, ℕ, ◌+◌, ◌≤◌, List, [], ◌∷◌, ◌++◌, length, Option, Some, None, refl, ap, sym, subst, ◌∙◌, arith, append_assoc, length-append, ◌⊎◌, ⊎_elim, inl, inr}
use Rattle.std.proofs.lemmas.List.{append-nil}
use Rattle.std.specs.Borrow.{MutBor}
use Rattle.keeper_book.specs.Asks.{AsksFor}
use Rattle.keeper_book.specs.declared.calls.Call.{Call}
use Rattle.keeper_book.specs.declared.calls.KeeperAnswer.{KeeperAnswer}
use Rattle.keeper_book.specs.declared.keepers.Keeper.{Ghosts}
use Rattle.keeper_book.specs.Spoken.{Spoken, EachGives}
use Rattle.keeper_book.specs.Book.{Book, EntersAll, EntersTold, EntersAllTold}
use Rattle.ha_base.specs.Faults.{Rose}
use Rattle.keeper_book.specs.Told.{AddsTold, AddsAllTold, AreAnswers, HasCause, HaveCause, IsAnswerOf, IsFailed, AnyFailed, seen}

enters_none : (book : Option Book) → EntersAllTold book [] book
enters_none None = refl
enters_none (Some book) = refl

adds_none : (calls : Option (List Call)) → AddsAllTold calls [] calls
adds_none None = tt
adds_none (Some calls) = λ few. sym (ap Some (append-nil calls))

pub asks_none : {K : Type 0} {book : K → Option Book} {told : K → Option (List Call)} {faults : K → ℕ} {gives : K → Call → K → Type 0} (old : K) → Spoken book told faults gives old [] old
asks_none {K} {book} {told} old = record {
  enters = enters_none (book old);
  adds = adds_none (told old);
  cause = record { later = omega arith; failed = λ none. absurd none };
  answers = tt;
  each = refl;
}

-- a function that asked nothing, where its rule holds of no calls
pub asks_for_none : {K : Type 0} {rule : List Call → Type 0} (keeper : Ghosts K) (k : K) → rule [] → AsksFor keeper k k rule
asks_for_none keeper k follows = record { calls = []; follows = follows; asked = asks_none k; held = refl }

enters_one : (old : Option Book) (call : Call) (new : Option Book) → EntersTold old call new → EntersAllTold old (call ∷ []) new
enters_one None call new e = e
enters_one (Some old) call None e = e
enters_one (Some old) call (Some new) e = (new, e, refl)

adds_one : (old : Option (List Call)) (call : Call) (new : Option (List Call)) → AddsTold old call new → AddsAllTold old (call ∷ []) new
adds_one None call new a = tt
adds_one (Some old) call new a = λ few. a (omega arith)

-- one call
pub asks_one : {K : Type 0} {book : K → Option Book} {told : K → Option (List Call)} {faults : K → ℕ} {gives : K → Call → K → Type 0} (old : K) (answered : KeeperAnswer) (call : Call) (new : K) → seen call ≡ answered → EntersTold (book old) call (book new) → AddsTold (told old) call (told new) → HasCause (faults old) (faults new) answered → IsAnswerOf call.asked call.answer → gives old call new → Spoken book told faults gives old (call ∷ []) new
asks_one {K} {book} {told} old answered call new sees entered added cause promised given = record {
  enters = enters_one (book old) call (book new) entered;
  adds = adds_one (told old) call (told new) added;
  cause = record { later = cause.later; failed = ⊎_elim (λ f. cause.failed (subst IsFailed sees f)) (λ none. absurd none) };
  answers = (promised, tt);
  each = (new, given, refl);
}

-- the book goes on by calls, and then by others
pub entered_then : (old : Book) (xs ys : List Call) (mid new : Book) → EntersAll old xs mid → EntersAll mid ys new → EntersAll old (xs ++ ys) new
entered_then old [] ys mid new e f = subst (λ b. EntersAll b ys new) e f
entered_then old (x ∷ xs) ys mid new e f = (e.0, e.1, entered_then e.0 xs ys mid new e.2 f)

entered_then_told : (old : Option Book) (xs ys : List Call) (mid new : Option Book) → EntersAllTold old xs mid → EntersAllTold mid ys new → EntersAllTold old (xs ++ ys) new
entered_then_told None xs ys mid new e f = subst (λ m. EntersAllTold m ys new) e f
entered_then_told (Some old) xs ys None new e f = absurd e
entered_then_told (Some old) xs ys (Some mid) None e f = absurd f
entered_then_told (Some old) xs ys (Some mid) (Some new) e f = entered_then old xs ys mid new e f

adds_then : (old : Option (List Call)) (xs ys : List Call) (mid new : Option (List Call)) → AddsAllTold old xs mid → AddsAllTold mid ys new → AddsAllTold old (xs ++ ys) new
adds_then None xs ys mid new a b = tt
adds_then (Some old) xs ys mid new a b = λ few.
    let all : length old + (length xs + length ys) ≤ 8 = omega (arith, few, length-append xs ys) in
    let there : mid ≡ Some (old ++ xs) = a (omega arith) in
    let told : AddsAllTold (Some (old ++ xs)) ys new = subst (λ m. AddsAllTold m ys new) there b in
    told (omega (arith, length-append old xs)) ∙ ap Some (append_assoc old xs ys)

-- one of the calls is of the first ones or of those after them
pub failed_then : (xs ys : List Call) → AnyFailed (xs ++ ys) → AnyFailed xs ⊎ AnyFailed ys
failed_then [] ys f = inr f
failed_then (x ∷ xs) ys f = ⊎_elim (λ h. inl (inl h)) (λ h. ⊎_elim (λ t. inl (inr t)) (λ t. inr t) (failed_then xs ys h)) f

pub rose_before : (before mid now : ℕ) → Rose before mid → mid ≤ now → Rose before now
rose_before before mid now r l = omega (arith, r, l)

pub rose_after : (before mid now : ℕ) → before ≤ mid → Rose mid now → Rose before now
rose_after before mid now l r = omega (arith, r, l)

cause_then : (before mid now : ℕ) (xs ys : List Call) → HaveCause before mid xs → HaveCause mid now ys → HaveCause before now (xs ++ ys)
cause_then before mid now xs ys a b = record {
  later = omega (arith, a.later, b.later);
  failed = λ f. ⊎_elim (λ h. rose_before before mid now (a.failed h) b.later) (λ h. rose_after before mid now a.later (b.failed h)) (failed_then xs ys f);
}

gives_then : {K : Type 0} (gives : K → Call → K → Type 0) (old : K) (xs ys : List Call) (mid new : K) → EachGives gives old xs mid → EachGives gives mid ys new → EachGives gives old (xs ++ ys) new
gives_then gives old [] ys mid new a b = subst (λ m. EachGives gives m ys new) a b
gives_then gives old (x ∷ xs) ys mid new a b = (a.0, a.1, gives_then gives a.0 xs ys mid new a.2 b)

answers_then : (xs ys : List Call) → AreAnswers xs → AreAnswers ys → AreAnswers (xs ++ ys)
answers_then [] ys a b = b
answers_then (x ∷ xs) ys a b = (a.0, answers_then xs ys a.1 b)

-- calls after calls
pub asks_then : {K : Type 0} {book : K → Option Book} {told : K → Option (List Call)} {faults : K → ℕ} {gives : K → Call → K → Type 0} {old mid new : K} {xs ys : List Call} → Spoken book told faults gives old xs mid → Spoken book told faults gives mid ys new → Spoken book told faults gives old (xs ++ ys) new
asks_then {K} {book} {told} {faults} {gives} {old} {mid} {new} {xs} {ys} a b = record {
  enters = entered_then_told (book old) xs ys (book mid) (book new) a.enters b.enters;
  adds = adds_then (told old) xs ys (told mid) (told new) a.adds b.adds;
  cause = cause_then (faults old) (faults mid) (faults new) xs ys a.cause b.cause;
  answers = answers_then xs ys a.answers b.answers;
  each = gives_then gives old xs ys mid new a.each b.each;
}

-- one call that was passed on through a reference
pub asks_lent : {K : Type 0} {book : K → Option Book} {told : K → Option (List Call)} {faults : K → ℕ} {gives : K → Call → K → Type 0} (old : MutBor K) (call : Call) (new : MutBor K) → Spoken book told faults gives old.now (call ∷ []) new.now → Spoken (λ r. book r.now) (λ r. told r.now) (λ r. faults r.now) (λ r called s. gives r.now called s.now) old (call ∷ []) new
asks_lent {K} {book} {told} {faults} {gives} old call new s = record {
  enters = s.enters;
  adds = s.adds;
  cause = s.cause;
  answers = s.answers;
  each = (new, subst (λ m. gives old.now call m) (sym s.each.2) s.each.1, refl);
}
