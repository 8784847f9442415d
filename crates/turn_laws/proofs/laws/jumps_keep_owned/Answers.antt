use Rattle.turn_laws.proofs.Columns.{goes_on-refl}
use Rattle.turn_laws.proofs.Holdings.{owned-after}
use Rattle.turn_laws.specs.Holdings.{Jumps}
use Rattle.turn_laws.proofs.laws.jumps_keep_owned.Goals as goal

pub returns : goal.returns
returns c held uses column w n owned = owned-after held uses column column (Jumps w n) owned (goes_on-refl column owned.rising)
