use Rattle.ike_window.proofs.Keeping.{jumped_as, jumped_window, jumps_of}
use Rattle.ike_window.proofs.answering.Answering.jump.Goals as goal

pub invariant_of-self : goal.invariant_of-self
invariant_of-self c =
    rw c.max-self-inside.ensures
    (jumped_window c.self.inside.floor c.self.inside.low c.args.floor c.settle-self-inside.result c.self.inside.ring c.settle-self-inside.new.ring c.self.invariant
    (rw c.max.ensures at c.settle-self-inside.ensures.low)
    (rw c.max-self-inside.ensures at c.settle-self-inside.ensures.kept)
    (rw c.max-self-inside.ensures at c.settle-self-inside.ensures.first))

pub returns-clause-jumps : goal.returns-clause-jumps
returns-clause-jumps c =
    rw (← c.self.view_is, c.max-self-inside.ensures)
    (jumps_of c.self.inside.floor c.self.inside.low c.args.floor c.settle-self-inside.result c.self.inside.ring c.settle-self-inside.new.ring c.self.invariant
    (rw c.max.ensures at c.settle-self-inside.ensures.low)
    (rw c.max-self-inside.ensures at c.settle-self-inside.ensures.kept))

pub returns-clause-raised : goal.returns-clause-raised
returns-clause-raised c =
    rw (← c.self.view_is, c.max-self-inside.ensures)
    (jumped_as c.self.inside.floor c.self.inside.low c.args.floor c.settle-self-inside.result c.self.inside.ring c.settle-self-inside.new.ring c.self.invariant
    (rw c.max.ensures at c.settle-self-inside.ensures.low)
    (rw c.max-self-inside.ensures at c.settle-self-inside.ensures.kept))
