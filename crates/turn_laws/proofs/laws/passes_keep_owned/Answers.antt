use Rattle.turn_laws.proofs.Holdings.{owned-after}
use Rattle.turn_laws.specs.Holdings.{Passes}
use Rattle.turn_laws.proofs.laws.passes_keep_owned.Goals as goal

pub returns : goal.returns
returns c held uses old new w v owned goes = owned-after held uses old new (Passes w v) owned goes
