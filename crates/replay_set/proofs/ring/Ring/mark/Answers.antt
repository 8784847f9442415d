use Rattle.std.proofs.Common.{rules}
use Rattle.replay_set.proofs.Bits.{mark_set, mark_others}
use Rattle.replay_set.proofs.ring.Ring.mark.Goals as goal

pub returns-clause-marked : goal.returns-clause-marked
returns-clause-marked c = rw c.word_of.ensures (mark_set c.args.self.now.words c.args.n (search rules))

pub returns-clause-others : goal.returns-clause-others
returns-clause-others c = rw c.word_of.ensures (mark_others c.args.self.now.words c.args.n (search rules))
