use Rattle.turn_laws.proofs.Safety.{owned-move}
use Rattle.turn_laws.proofs.laws.moves_keep_owned.Goals as goal

pub returns : goal.returns
returns c acts w move old new owned may writes = owned-move acts old new w owned move may writes
