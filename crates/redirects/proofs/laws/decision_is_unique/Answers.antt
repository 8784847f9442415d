use Rattle.redirects.proofs.Decisions.{decision_unique}
use Rattle.redirects.proofs.laws.decision_is_unique.Goals as goal

pub returns : goal.returns
returns c = decision_unique
