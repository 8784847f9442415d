-- A call that a gate passed on and recorded.
use Rattle.std.proofs.Common.{◌≡◌, ℕ, Bool, true, false, List, [], ◌∷◌, ◌++◌, length, not, if◌then◌else◌, Option, Some, None, refl, ap, sym, subst, arith, ◌⊎◌, ⊎_elim, inl, inr}
use Rattle.std.proofs.lemmas.Bool.{lt-ltb}
use Rattle.keeper_book.specs.declared.calls.Call.{Call}
use Rattle.keeper_book.specs.declared.calls.KeeperAnswer.{KeeperAnswer}
use Rattle.keeper_book.specs.declared.calls.KeeperAnswer.TheVariants as answer
use Rattle.keeper_book.specs.declared.calls.KeeperAsk.{KeeperAsk}
use Rattle.keeper_book.specs.declared.calls.KeeperAsk.TheVariants as ask
use Rattle.keeper_book.specs.declared.faults.KeeperFault.TheVariants as fault
use Rattle.keeper_book.specs.Book.{Book, Answers, Enters, EntersAllTold, book_after}
use Rattle.keeper_book.specs.Gates.{Gated, PassedOn, has_room, kept, missed_one, told_calls, unless_missed}
use Rattle.keeper_book.specs.Spoken.{Spoken}
use Rattle.keeper_book.specs.Told.{AddsAllTold, HaveCause, IsAnswerOf, IsCallOf, IsFailed, seen}

-- the call as a gate records it
abbrev pub recorded : KeeperAsk → KeeperAnswer → Call
recorded asked answered = record { asked = asked; answer = answered; hidden = false }

-- every call may have failed
failed-answer : (asked : KeeperAsk) → IsAnswerOf asked (answer.Refused fault.Failed)
failed-answer (ask.Enter sa) = tt
failed-answer (ask.TakeOver spir member) = tt
failed-answer (ask.Cover spir kind child epoch upto) = tt
failed-answer (ask.Lease pool count) = tt
failed-answer (ask.Settle ticket old_spir sa member) = tt
failed-answer (ask.Look ticket) = tt

-- what a keeper promises of an answer holds of what the caller saw
pub seen-answer : (call : Call) → IsAnswerOf call.asked call.answer → IsAnswerOf call.asked (seen call)
seen-answer call is = by_test call.hidden
  where
    by_test : (b : Bool) → IsAnswerOf call.asked (if b then answer.Refused fault.Failed else call.answer)
    by_test true = failed-answer call.asked
    by_test false = is

answer-seen : (asked : KeeperAsk) (answered : KeeperAnswer) (call : Call) → IsCallOf asked answered call → IsAnswerOf call.asked call.answer → IsAnswerOf asked answered
answer-seen asked answered call is promised = subst (λ a. IsAnswerOf a answered) is.asks (subst (IsAnswerOf call.asked) is.sees (seen-answer call promised))

-- whatever is answered, the entry is in the book or it is not
entered_or_not : (old : Book) (asked : KeeperAsk) (answered : KeeperAnswer) (new : Book) → Answers old asked answered new → (new ≡ old) ⊎ (new ≡ book_after old asked)
entered_or_not old asked (answer.Refused fault.Failed) new a = a
entered_or_not old asked (answer.Refused fault.Memory) new a = inl a.2
entered_or_not old asked answered new a = inr a.1

-- a call that was answered is one that was answered as its caller saw it
as_seen : (old : Book) (call : Call) (hidden : Bool) (new : Book) → call.hidden ≡ hidden → Enters old call new → Answers old call.asked (seen call) new
as_seen old call true new h e = subst (λ b. Answers old call.asked (if b then answer.Refused fault.Failed else call.answer) new) (sym h) (entered_or_not old call.asked call.answer new e)
as_seen old call false new h e = subst (λ b. Answers old call.asked (if b then answer.Refused fault.Failed else call.answer) new) (sym h) e

passed_enters : (old new : Option Book) (asked : KeeperAsk) (answered : KeeperAnswer) (call : Call) → IsCallOf asked answered call → EntersAllTold old (call ∷ []) new → EntersAllTold old (recorded asked answered ∷ []) new
passed_enters None new asked answered call is e = e
passed_enters (Some old) None asked answered call is e = e
passed_enters (Some old) (Some new) asked answered call is e =
    (e.0, subst (λ a. Answers old a answered e.0) is.asks (subst (λ a. Answers old call.asked a e.0) is.sees (as_seen old call call.hidden e.0 refl e.1)), e.2)

-- a call for which there is room is told
told_more : (room : Bool) (calls : List Call) (call : Call) (missed' : Bool) (calls' : List Call) → room ≡ true → calls' ≡ (if room then calls ++ call ∷ [] else calls) → missed' ≡ not room → unless_missed missed' calls' ≡ Some (calls ++ call ∷ [])
told_more true calls call missed' calls' r k m = subst (λ b. unless_missed b calls' ≡ Some (calls ++ call ∷ [])) (sym m) (ap Some k)
told_more false calls call missed' calls' r k m = absurd (cc)

passed_adds : (missed : Bool) (calls : List Call) (call : Call) (missed' : Bool) (calls' : List Call) → calls' ≡ kept calls call → missed' ≡ missed_one calls missed → AddsAllTold (unless_missed missed calls) (call ∷ []) (unless_missed missed' calls')
passed_adds true calls call missed' calls' k m = tt
passed_adds false calls call missed' calls' k m = λ few. told_more (has_room calls) calls call missed' calls' (lt-ltb (length calls) 8 (omega arith)) k m

passed_cause : (before now : ℕ) (asked : KeeperAsk) (answered : KeeperAnswer) (call : Call) → IsCallOf asked answered call → HaveCause before now (call ∷ []) → HaveCause before now (recorded asked answered ∷ [])
passed_cause before now asked answered call is cause = record {
  later = cause.later;
  failed = ⊎_elim (λ f. cause.failed (inl (subst IsFailed (sym is.sees) f))) (λ none. absurd none);
}

passed_plain : {K : Type 0} {book : K → Option Book} {told : K → Option (List Call)} {faults : K → ℕ} {gives : K → Call → K → Type 0} (old new : Gated K) (asked : KeeperAsk) (answered : KeeperAnswer) (made call : Call) (mid : K) → IsCallOf asked answered call → Spoken book told faults gives old.keeper (call ∷ []) mid → new.keeper ≡ mid → made ≡ recorded asked answered → new.first ≡ kept old.first made → new.missed ≡ missed_one old.first old.missed → (x : Call) × IsCallOf asked answered x × Spoken {K = Gated K} (λ g. book g.keeper) told_calls (λ g. faults g.keeper) (PassedOn book told faults gives) old (x ∷ []) new
passed_plain {K} {book} {told} {faults} {gives} old new asked answered made call mid is spoken same made_is k m =
    let called = subst (λ s. Spoken book told faults gives old.keeper (call ∷ []) s) (sym same) spoken in
    let keeps = subst (λ c. new.first ≡ kept old.first c) made_is k in (
      recorded asked answered,
      record { asks = refl; sees = refl },
      record {
        enters = passed_enters (book old.keeper) (book new.keeper) asked answered call is called.enters;
        adds = passed_adds old.missed old.first (recorded asked answered) new.missed new.first keeps m;
        cause = passed_cause (faults old.keeper) (faults new.keeper) asked answered call is called.cause;
        answers = (answer-seen asked answered call is called.answers.0, tt);
        each = (
          new,
          record {
            open_answer = refl;
            recorded = keeps;
            counted = m;
            below = (call, is, called);
          },
          refl,
        );
      },
    )

-- a gate that was seen as this one passed on a call and recorded it
pub passed : {K : Type 0} {book : K → Option Book} {told : K → Option (List Call)} {faults : K → ℕ} {gives : K → Call → K → Type 0} (keeper : K) (first : List Call) (missed : Bool) (old new : Gated K) → record { keeper = keeper; first = first; missed = missed } ≡ old → (asked : KeeperAsk) (answered : KeeperAnswer) (made call : Call) (mid : K) → IsCallOf asked answered call → Spoken book told faults gives keeper (call ∷ []) mid → new.keeper ≡ mid → made ≡ recorded asked answered → new.first ≡ kept first made → new.missed ≡ missed_one first missed → (x : Call) × IsCallOf asked answered x × Spoken {K = Gated K} (λ g. book g.keeper) told_calls (λ g. faults g.keeper) (PassedOn book told faults gives) old (x ∷ []) new
passed {K} {book} {told} {faults} {gives} keeper first missed old new view asked answered made call mid is spoken same made_is k m =
    subst (λ (g : Gated K). (x : Call) × IsCallOf asked answered x × Spoken {K = Gated K} (λ h. book h.keeper) told_calls (λ h. faults h.keeper) (PassedOn book told faults gives) g (x ∷ []) new) view
    (passed_plain (record { keeper = keeper; first = first; missed = missed }) new asked answered made call mid is spoken same made_is k m)
