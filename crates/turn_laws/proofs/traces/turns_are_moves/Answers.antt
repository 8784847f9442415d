use Rattle.turn_laws.proofs.All.{turn-well}
use Rattle.turn_laws.proofs.traces.turns_are_moves.Goals as goal

pub returns : goal.returns
returns c boxes past turn local = turn-well boxes past turn local.0 local.1
