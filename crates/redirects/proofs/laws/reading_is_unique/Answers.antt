use Rattle.redirects.proofs.Readings.{reading_unique}
use Rattle.redirects.proofs.laws.reading_is_unique.Goals as goal

pub returns : goal.returns
returns c = reading_unique
