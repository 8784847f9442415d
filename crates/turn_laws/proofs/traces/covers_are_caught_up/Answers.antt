use Rattle.turn_laws.proofs.Caught.{covers-caught}
use Rattle.turn_laws.proofs.traces.covers_are_caught_up.Goals as goal

pub returns : goal.returns
returns c = covers-caught
