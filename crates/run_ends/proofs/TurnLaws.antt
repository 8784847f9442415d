-- What the calls of one more turn are, and what they do to the keeper.
use Rattle.std.proofs.Common.{◌≡◌, ℕ, ◌≤◌, Bool, true, false, Option, Some, None, List, [], ◌∷◌, length, ⊎_elim, arith, subst}
use Rattle.events.specs.declared.turn.Turn.{Turn}
use Rattle.keeper_book.proofs.Asking.{entered_then, failed_then, rose_after, rose_before}
use Rattle.keeper_book.specs.Book.{Book, EntersAllTold}
use Rattle.keeper_book.specs.Gates.{Gated, told_calls, unless_missed}
use Rattle.keeper_book.specs.Spoken.{EachGives, Spoken}
use Rattle.keeper_book.specs.Told.{AddsAllTold, HaveCause}
use Rattle.keeper_book.specs.declared.calls.Call.{Call}
use Rattle.turn_rules.specs.Local.{AreShown, calls_of}
use Rattle.run_ends.specs.Runs.{CausedSince, StandsTold}

got_all : (calls got : List Call) (missed : Bool) → unless_missed missed got ≡ Some calls → got ≡ calls
got_all calls got true e = absurd (cc)
got_all calls got false e = cc

-- a gate that had told no call has recorded these
pub told-all : {K : Type 0} (calls : List Call) (before after : Gated K) → told_calls before ≡ Some [] → length calls ≤ 3 → AddsAllTold (told_calls before) calls (told_calls after) → after.first ≡ calls
told-all calls before after told few adds =
    let said : AddsAllTold (Some []) calls (told_calls after) = subst (λ t. AddsAllTold t calls (told_calls after)) told adds in
    got_all calls after.first after.missed (said (omega (arith, few)))

pub shown-all : {G : Type 0} (gives : G → Call → G → Type 0) → ((a : G) (call : Call) (b : G) → gives a call b → call.hidden ≡ false) → (old : G) (calls : List Call) (new : G) → EachGives gives old calls new → AreShown calls
shown-all gives plain old [] new e = tt
shown-all gives plain old (call ∷ calls) new e = (plain old call e.0 e.1, shown-all gives plain e.0 calls new e.2)

-- the book goes on by the calls of the newest turn
pub stands-more : (turn : Turn) (past : List Turn) (old new : Option Book) → EntersAllTold old turn.calls new → StandsTold past old → StandsTold (turn ∷ past) new
stands-more turn past None new e s = absurd s
stands-more turn past (Some old) None e s = absurd e
stands-more turn past (Some old) (Some new) e s = entered_then _ (calls_of past) turn.calls old new s e

-- and a call of it failed only where the count rose
pub caused-more : (turn : Turn) (past : List Turn) (start mid now : ℕ) → HaveCause mid now turn.calls → CausedSince start mid past → CausedSince start now (turn ∷ past)
caused-more turn past start mid now b a = record {
  later = omega (arith, a.later, b.later);
  failed = λ f. ⊎_elim (λ h. rose_before start mid now (a.failed h) b.later) (λ h. rose_after start mid now a.later (b.failed h)) (failed_then (calls_of past) turn.calls f);
}

-- no answer was hidden from the end that asked
pub spoken-shown : {G : Type 0} {book : G → Option Book} {told : G → Option (List Call)} {faults : G → ℕ} {gives : G → Call → G → Type 0} (old : G) (calls : List Call) (new : G) → Spoken book told faults gives old calls new → ((a : G) (call : Call) (b : G) → gives a call b → call.hidden ≡ false) → AreShown calls
spoken-shown {gives = gives} old calls new s plain = shown-all gives plain old calls new s.each
