use Rattle.std.proofs.Common.{◌≡◌, false, sym, nat_lt, arith}
use Rattle.std.proofs.lemmas.Bool.Decides.{nat_tests}
use Rattle.replay_set.specs.Ring.{is_marked}
use Rattle.replay_set.proofs.Numbers.{passed_above, passed_within}
use Rattle.replay_set.proofs.set.ReplaySet.has.Goals as goal

pub returns-then-n-self : goal.returns-then-n-self
returns-then-n-self c =
    rw (c.has.ensures, ← c.self.view_is) (sym (passed_within (is_marked c.self.inside.ring.words) c.self.inside.next c.self.inside.window c.args.n c.if-n-self.true (let reached = rw (← c.self.view_is) at c.requires in reached)))

pub returns-else-n-self : goal.returns-else-n-self
returns-else-n-self c =
    let above : nat_lt c.args.n c.self.inside.next ≡ false = grind (arith, nat_tests) in
    rw (above, ← c.self.view_is) (sym (passed_above (is_marked c.self.inside.ring.words) c.self.inside.next c.self.inside.window c.args.n c.if-n-self.false))
