use Rattle.std.proofs.Common.{refl}
use Rattle.turn_laws.proofs.Safety.{owned-move}
use Rattle.turn_laws.specs.Acts.{Ends}
use Rattle.turn_laws.proofs.laws.ends_keep_owned.Goals as goal

pub returns : goal.returns
returns c acts w book owned = owned-move acts book book w owned Ends tt refl
