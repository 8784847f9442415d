use Rattle.turn_laws.proofs.All.{epochs-differ, highs-below}
use Rattle.turn_laws.proofs.traces.holdings_are_apart.Goals as goal

pub returns-clause-epochs : goal.returns-clause-epochs
returns-clause-epochs c = epochs-differ

pub returns-clause-highs : goal.returns-clause-highs
returns-clause-highs c = highs-below
