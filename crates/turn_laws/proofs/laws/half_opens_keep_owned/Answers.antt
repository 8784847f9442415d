use Rattle.std.proofs.Common.{refl}
use Rattle.turn_laws.proofs.Halves.{half-may}
use Rattle.turn_laws.proofs.Safety.{owned-move}
use Rattle.turn_laws.specs.Acts.{Opens, Seals}
use Rattle.turn_laws.specs.Holdings.{Half}
use Rattle.turn_laws.proofs.laws.half_opens_keep_owned.Goals as goal

pub returns-clause-opens : goal.returns-clause-opens
returns-clause-opens c acts w ticket made book owned may = owned-move acts book book w owned (Opens ticket made) may refl

pub returns-clause-fails : goal.returns-clause-fails
returns-clause-fails c acts key spir book owned place iv half = owned-move acts book book (Half spir) owned (Seals key) (half-may acts key spir place iv half) refl
