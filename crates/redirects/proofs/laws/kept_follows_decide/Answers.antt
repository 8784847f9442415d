use Rattle.redirects.proofs.Loops.{kept_decide}
use Rattle.redirects.proofs.laws.kept_follows_decide.Goals as goal

pub returns : goal.returns
returns c = kept_decide
