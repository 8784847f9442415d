use Rattle.replay_set.proofs.Numbers.{judging_by}
use Rattle.replay_set.proofs.laws.judging_by_numbers.Goals as goal

pub returns : goal.returns
returns c = judging_by
