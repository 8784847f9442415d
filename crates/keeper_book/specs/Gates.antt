-- What a gate is seen as, and what it records of the calls that it passes on.
use Rattle.std.specs.Prelude.{ℕ, ◌≡◌, Bool, true, false, ◌||◌, not, nat_lt, if◌then◌else◌, Option, Some, None, List, [], ◌∷◌, ◌++◌, length}
use Rattle.keeper_book.specs.declared.calls.Call.{Call}
use Rattle.keeper_book.specs.Book.{Book}
use Rattle.keeper_book.specs.Spoken.{Spoken}
use Rattle.keeper_book.specs.Told.{IsCallOf}

-- a gate: the keeper behind it, the first eight calls since they were last taken, and whether there
-- was a ninth
pub record Gated (K : Type 0) : Type 0 where
  pub keeper : K
  pub first : List Call
  pub missed : Bool

abbrev pub unless_missed : Bool → List Call → Option (List Call)
unless_missed true calls = None
unless_missed false calls = Some calls

-- a gate tells its calls until it missed one
abbrev pub told_calls : {K : Type 0} → Gated K → Option (List Call)
told_calls gate = unless_missed gate.missed gate.first

-- there is room for one more
abbrev pub has_room : List Call → Bool
has_room calls = nat_lt (length calls) 8

-- the first eight calls are kept
abbrev pub kept : List Call → Call → List Call
kept calls call = if has_room calls then calls ++ call ∷ [] else calls

-- the ninth is missed
abbrev pub missed_one : List Call → Bool → Bool
missed_one calls missed = missed || not (has_room calls)

-- A call that was passed on and answered as the keeper below answered it: what that keeper says of
-- a call holds of the one that it was asked. Calls and answers are recorded as they were.
pub record PassedOn {K : Type 0} (book : K → Option Book) (told : K → Option (List Call))
    (faults : K → ℕ) (gives : K → Call → K → Type 0) (old : Gated K) (call : Call)
    (new : Gated K) : Type 0 where
  pub open_answer : call.hidden ≡ false
  pub recorded : new.first ≡ kept old.first call
  pub counted : new.missed ≡ missed_one old.first old.missed
  pub below : (called : Call) × IsCallOf call.asked call.answer called
      × Spoken book told faults gives old.keeper (called ∷ []) new.keeper
