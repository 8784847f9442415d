use Rattle.replay_set.proofs.Bits.{AreCleared}
use Rattle.replay_set.proofs.ring.Ring.clear.Given as goal

abbrev pub invariant-loop-block : goal.invariant-loop-block
invariant-loop-block l = AreCleared l.from l.to l.block l.fn.self.words l.self.words
