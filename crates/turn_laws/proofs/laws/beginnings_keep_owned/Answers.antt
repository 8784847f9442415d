use Rattle.turn_laws.proofs.Holdings.{owned-begins}
use Rattle.turn_laws.proofs.laws.beginnings_keep_owned.Goals as goal

pub returns : goal.returns
returns c = owned-begins
