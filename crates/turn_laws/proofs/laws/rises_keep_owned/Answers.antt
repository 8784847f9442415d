use Rattle.turn_laws.proofs.Columns.{goes_on-refl}
use Rattle.turn_laws.proofs.Holdings.{owned-after}
use Rattle.turn_laws.specs.Holdings.{Rises}
use Rattle.turn_laws.proofs.laws.rises_keep_owned.Goals as goal

pub returns : goal.returns
returns c held uses column w upto owned below = owned-after held uses column column (Rises w upto) owned (goes_on-refl column owned.rising, below)
