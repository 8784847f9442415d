use Rattle.replay_set.proofs.Numbers.{noting_adds}
use Rattle.replay_set.proofs.laws.noting_adds_the_number.Goals as goal

pub returns : goal.returns
returns c = noting_adds
