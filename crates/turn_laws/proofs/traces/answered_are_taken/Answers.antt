use Rattle.turn_laws.proofs.Taken.{members-keep, peer-keeps}
use Rattle.turn_laws.proofs.traces.answered_are_taken.Goals as goal

pub returns-clause-members : goal.returns-clause-members
returns-clause-members c = members-keep

pub returns-clause-peer : goal.returns-clause-peer
returns-clause-peer c = peer-keeps
