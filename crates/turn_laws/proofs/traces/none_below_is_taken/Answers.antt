use Rattle.turn_laws.proofs.TakenFrom.{member-takes-from, peer-takes-from}
use Rattle.turn_laws.proofs.traces.none_below_is_taken.Goals as goal

pub returns-clause-peer : goal.returns-clause-peer
returns-clause-peer c = peer-takes-from

pub returns-clause-member : goal.returns-clause-member
returns-clause-member c = member-takes-from
