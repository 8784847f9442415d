use Rattle.std.proofs.Common.{refl}
use Rattle.turn_laws.proofs.Safety.{owned-move}
use Rattle.turn_laws.specs.Acts.{Starts}
use Rattle.turn_laws.proofs.laws.starts_keep_owned.Goals as goal

pub returns : goal.returns
returns c acts w sa book owned may = owned-move acts book book w owned (Starts sa) may refl
