use Rattle.turn_laws.proofs.MemberSyncs.{member-synchronised}
use Rattle.turn_laws.proofs.PeerSyncs.{peer-synchronised}
use Rattle.turn_laws.proofs.traces.greater_counters_are_left.Goals as goal

pub returns-clause-peer : goal.returns-clause-peer
returns-clause-peer c = peer-synchronised

pub returns-clause-member : goal.returns-clause-member
returns-clause-member c = member-synchronised
