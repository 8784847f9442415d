use Rattle.turn_laws.proofs.All.{owned-run}
use Rattle.turn_laws.proofs.traces.all_is_owned.Goals as goal

pub returns : goal.returns
returns c = owned-run
