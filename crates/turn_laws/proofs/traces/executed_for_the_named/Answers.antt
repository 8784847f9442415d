use Rattle.turn_laws.proofs.Serving.{serves-named}
use Rattle.turn_laws.proofs.traces.executed_for_the_named.Goals as goal

pub returns : goal.returns
returns c = serves-named
