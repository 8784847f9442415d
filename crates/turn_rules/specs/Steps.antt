-- What a step says.
use Rattle.std.specs.Prelude.{◌≡◌, List, [], None}
use Rattle.events.specs.declared.turn.Step.{Step}
use Rattle.events.specs.declared.verdict.Refusal.{Refusal}
use Rattle.events.specs.declared.verdict.Verdict.{Verdict}
use Rattle.events.specs.declared.verdict.Verdict.TheVariants as out
use Rattle.keeper_book.specs.declared.calls.Call.{Call}

-- nothing was executed, sealed or sent
pub record IsQuiet (step : Step) : Type 0 where
  pub served : step.served ≡ None
  pub seals : step.seals ≡ []
  pub gives : step.gives ≡ None

-- the same, and the event came out so
pub record Says (verdict : Verdict) (step : Step) : Type 0 where
  pub said : step.verdict ≡ verdict
  pub quiet : IsQuiet step

-- no call is left, and the event was refused
abbrev pub RefusesThen : Refusal → List Call → Step → Type 0
RefusesThen why rest step = (rest ≡ []) × Says (out.Refused why) step
