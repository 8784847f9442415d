-- What a keeper's calls say of it: the calls that it tells, and its count of faults.
use Rattle.std.specs.Prelude.{ℕ, ◌+◌, ◌<◌, ◌≤◌, ◌≡◌, ◌⊎◌, Bool, if◌then◌else◌, Option, Some, None, List, [], ◌∷◌, ◌++◌, length, Result, Ok, Err}
use Rattle.std.specs.List.{AllByRecursion}
use Rattle.ha_base.specs.Faults.{Rose}
use Rattle.keeper_book.specs.Counters.{AreWithinEnds}
use Rattle.keeper_book.specs.Pools.{IsRangeOf, pool_end}
use Rattle.keeper_book.specs.declared.TheConstants.{MAX_ASSOCIATIONS, MAX_EPOCHS, MAX_SPENT_TICKETS}
use Rattle.keeper_book.specs.declared.calls.Call.{Call}
use Rattle.keeper_book.specs.declared.calls.KeeperAnswer.{KeeperAnswer}
use Rattle.keeper_book.specs.declared.calls.KeeperAnswer.TheVariants as answer
use Rattle.keeper_book.specs.declared.calls.KeeperAsk.{KeeperAsk}
use Rattle.keeper_book.specs.declared.calls.KeeperAsk.TheVariants as ask
use Rattle.keeper_book.specs.declared.faults.KeeperFault.{KeeperFault}
use Rattle.keeper_book.specs.declared.faults.KeeperFault.TheVariants as fault
use Rattle.keeper_book.specs.declared.records.Taken.{Taken}

-- the answer that a result is
abbrev pub answered : {T : Type 0} → (T → KeeperAnswer) → Result T KeeperFault → KeeperAnswer
answered given (Ok value) = given value
answered given (Err why) = answer.Refused why

abbrev pub done : Result (Unit {0}) KeeperFault → KeeperAnswer
done = answered (λ _. answer.Done)

abbrev pub taken_answer : Result Taken KeeperFault → KeeperAnswer
taken_answer = answered answer.Taken

abbrev pub first_answer : Result ℕ KeeperFault → KeeperAnswer
first_answer = answered answer.First

abbrev pub look_answer : Result Bool KeeperFault → KeeperAnswer
look_answer = answered answer.Look

-- what the caller saw: a hidden answer as a failed call
abbrev pub seen : Call → KeeperAnswer
seen call = if call.hidden then answer.Refused fault.Failed else call.answer

-- the call that was asked so, and answered so as its caller saw it
pub record IsCallOf (asked : KeeperAsk) (answered : KeeperAnswer) (call : Call) : Type 0 where
  pub asks : call.asked ≡ asked
  pub sees : seen call ≡ answered

-- where the calls are told and fewer than eight, one more is told
abbrev pub AddsTold : Option (List Call) → Call → Option (List Call) → Type 0
AddsTold None call new = Unit {0}
AddsTold (Some old) call new = length old < 8 → new ≡ Some (old ++ call ∷ [])

abbrev pub AddsAllTold : Option (List Call) → List Call → Option (List Call) → Type 0
AddsAllTold None calls new = Unit {0}
AddsAllTold (Some old) calls new = length old + length calls ≤ 8 → new ≡ Some (old ++ calls)

-- the refusals that a call has
abbrev pub IsRefusalOf : KeeperAsk → KeeperFault → Type 0
IsRefusalOf asked fault.Failed = Unit {0}
IsRefusalOf (ask.Enter sa) fault.SpiInUse = Unit {0}
IsRefusalOf (ask.Enter sa) (fault.Full limit) = limit ≡ MAX_ASSOCIATIONS
IsRefusalOf (ask.Enter sa) fault.Memory = Unit {0}
IsRefusalOf (ask.TakeOver spir member) fault.Unknown = Unit {0}
IsRefusalOf (ask.TakeOver spir member) fault.Closed = Unit {0}
IsRefusalOf (ask.TakeOver spir member) (fault.Full limit) = limit ≡ MAX_EPOCHS
IsRefusalOf (ask.TakeOver spir member) fault.Memory = Unit {0}
IsRefusalOf (ask.Cover spir kind child epoch upto) fault.Unknown = Unit {0}
IsRefusalOf (ask.Cover spir kind child epoch upto) fault.Closed = Unit {0}
IsRefusalOf (ask.Cover spir kind child epoch upto) (fault.Replaced other) = Unit {0}
IsRefusalOf (ask.Lease pool count) (fault.Full limit) = limit ≡ pool_end pool
IsRefusalOf (ask.Settle ticket old_spir sa member) fault.Spent = Unit {0}
IsRefusalOf (ask.Settle ticket old_spir sa member) fault.SpiInUse = Unit {0}
IsRefusalOf (ask.Settle ticket old_spir sa member) (fault.Full limit) =
    (limit ≡ MAX_SPENT_TICKETS) ⊎ (limit ≡ MAX_ASSOCIATIONS)
IsRefusalOf (ask.Settle ticket old_spir sa member) fault.Memory = Unit {0}
IsRefusalOf asked why = ⊥

-- what a takeover grants is the association that was asked for, and its bases lie within the ends
pub record IsGrantOf (spir : ℕ) (taken : Taken) : Type 0 where
  pub asked : taken.sa.spir ≡ spir
  pub within : AreWithinEnds taken.bases

-- the answers that a call has, whatever the keeper's book is
abbrev pub IsAnswerOf : KeeperAsk → KeeperAnswer → Type 0
IsAnswerOf asked (answer.Refused why) = IsRefusalOf asked why
IsAnswerOf (ask.Enter sa) answer.Done = Unit {0}
IsAnswerOf (ask.TakeOver spir member) (answer.Taken taken) = IsGrantOf spir taken
IsAnswerOf (ask.Cover spir kind child epoch upto) answer.Done = Unit {0}
IsAnswerOf (ask.Lease pool count) (answer.First first) = IsRangeOf pool count first
IsAnswerOf (ask.Settle ticket old_spir sa member) answer.Done = Unit {0}
IsAnswerOf (ask.Look ticket) (answer.Look spent) = Unit {0}
IsAnswerOf asked answered = ⊥

-- each of these calls was answered so
abbrev pub AreAnswers : List Call → Type 0
AreAnswers calls = AllByRecursion (λ call. IsAnswerOf call.asked call.answer) calls

-- the caller saw a failed call
abbrev pub IsFailed : KeeperAnswer → Type 0
IsFailed (answer.Refused fault.Failed) = Unit {0}
IsFailed answered = ⊥

-- the count does not fall, and a call failed only where it rose
pub record HasCause (before now : ℕ) (answered : KeeperAnswer) : Type 0 where
  pub later : before ≤ now
  pub failed : IsFailed answered → Rose before now

-- of some of these calls the caller saw that it failed
abbrev pub AnyFailed : List Call → Type 0
AnyFailed [] = ⊥
AnyFailed (call ∷ calls) = IsFailed (seen call) ⊎ AnyFailed calls

-- the count does not fall over these calls, and one of them failed only where it rose: by one at
-- least, however many failed
pub record HaveCause (before now : ℕ) (calls : List Call) : Type 0 where
  pub later : before ≤ now
  pub failed : AnyFailed calls → Rose before now
