use Rattle.turn_laws.proofs.Halves.{next-may}
use Rattle.turn_laws.proofs.laws.next_may_be_used.Goals as goal

pub returns : goal.returns
returns c = next-may
