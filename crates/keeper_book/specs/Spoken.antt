-- What calls, one after another, do to a keeper, by what it tells.
use Rattle.std.specs.Prelude.{ℕ, ◌≡◌, Option, List, [], ◌∷◌}
use Rattle.keeper_book.specs.declared.calls.Call.{Call}
use Rattle.keeper_book.specs.Book.{Book, EntersAllTold}
use Rattle.keeper_book.specs.Told.{AddsAllTold, AreAnswers, HaveCause}

-- each call leads from one state of the keeper to the next
abbrev pub EachGives : {K : Type 0} → (K → Call → K → Type 0) → K → List Call → K → Type 0
EachGives gives old [] new = new ≡ old
EachGives {K} gives old (call ∷ calls) new = (mid : K) × gives old call mid
    × EachGives gives mid calls new

-- These calls were asked of the keeper, in this order, and no others: what it tells of its book,
-- its calls and its count of faults, and what else it says of a call, are given first.
pub record Spoken {K : Type 0} (book : K → Option Book) (told : K → Option (List Call))
    (faults : K → ℕ) (gives : K → Call → K → Type 0) (old : K) (calls : List Call)
    (new : K) : Type 0 where
  -- the book, where it is told, goes on by the calls
  pub enters : EntersAllTold (book old) calls (book new)
  -- the calls, where they are told, are these more
  pub adds : AddsAllTold (told old) calls (told new)
  -- a call failed only where the count of faults rose
  pub cause : HaveCause (faults old) (faults new) calls
  -- each answer is one that its call has
  pub answers : AreAnswers calls
  -- what else the keeper says of its calls
  pub each : EachGives gives old calls new
