use Rattle.replay_set.proofs.Numbers.{top_is_greatest}
use Rattle.replay_set.proofs.laws.top_is_the_greatest.Goals as goal

pub returns : goal.returns
returns c = top_is_greatest
