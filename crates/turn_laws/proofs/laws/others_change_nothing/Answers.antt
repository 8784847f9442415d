use Rattle.turn_laws.proofs.Runs.{others-leave}
use Rattle.turn_laws.proofs.laws.others_change_nothing.Goals as goal

pub returns : goal.returns
returns c = others-leave
