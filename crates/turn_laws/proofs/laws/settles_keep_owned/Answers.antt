use Rattle.turn_laws.proofs.Settled.{settle-begins, settle-leaves, settle-owned, settle-passes}
use Rattle.turn_laws.proofs.laws.settles_keep_owned.Goals as goal

pub returns-clause-owned : goal.returns-clause-owned
returns-clause-owned c = settle-owned

pub returns-clause-begins : goal.returns-clause-begins
returns-clause-begins c = settle-begins

pub returns-clause-passes : goal.returns-clause-passes
returns-clause-passes c = settle-passes

pub returns-clause-leaves : goal.returns-clause-leaves
returns-clause-leaves c = settle-leaves
