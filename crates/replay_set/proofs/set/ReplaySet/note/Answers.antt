use Rattle.replay_set.proofs.Numbers.{fresh_reached}
use Rattle.replay_set.proofs.Views.{noted_above, noted_below}
use Rattle.replay_set.proofs.set.ReplaySet.note.Goals as goal
use Rattle.replay_set.proofs.set.ReplaySet.note.Goals.{then-n-self, else-n-self}

pub returns : goal.returns
returns c =
    let reached = (fresh_reached c.args.self.now c.args.n c.requires.fresh).1 in
    elim c.if-n-self.branch [
      | then-n-self w ↦
          let others = rw w.self-inside-is at c.mark.ensures.others in
          rw (w.self-inside-is, ← c.self.view_is) (noted_above _ _ _ _ _ _ _ c.self.invariant w.if-n-self.true w.clear.ensures c.mark.ensures.marked others)
      | else-n-self w ↦
          let others = rw w.self-inside-is at c.mark.ensures.others in
          let reached_here = rw (← c.self.view_is) at reached in
          rw (w.self-inside-is, ← c.self.view_is) (noted_below _ _ _ _ _ _ c.self.invariant w.if-n-self.false reached_here c.mark.ensures.marked others)
    ]
