use Rattle.turn_laws.proofs.Columns.{goes_on-refl}
use Rattle.turn_laws.proofs.Holdings.{owned-after}
use Rattle.turn_laws.specs.Holdings.{Draws}
use Rattle.turn_laws.proofs.laws.uses_keep_owned.Goals as goal

pub returns : goal.returns
returns c held uses column w h n owned holds may = owned-after held uses column column (Draws w n) owned (goes_on-refl column owned.rising, h, holds, may)
