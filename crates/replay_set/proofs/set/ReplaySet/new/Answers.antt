use Rattle.replay_set.proofs.Views.{unnoted}
use Rattle.replay_set.proofs.set.ReplaySet.new.Goals as goal

pub returns-in-64 : goal.returns-in-64
returns-in-64 c = (c.in-64.is, unnoted c.args.window c.args.base _ c.new.ensures)
