use Rattle.turn_laws.proofs.FirstDelivery.{member-accepts-first, peer-accepts-first}
use Rattle.turn_laws.proofs.Genuine.{are-accepted}
use Rattle.turn_laws.proofs.traces.genuine_are_accepted.Goals as goal

pub returns-clause-runs : goal.returns-clause-runs
returns-clause-runs c = are-accepted c.sealed_packets_open.ensures

pub returns-clause-members : goal.returns-clause-members
returns-clause-members c = member-accepts-first c.sealed_packets_open.ensures

pub returns-clause-peer : goal.returns-clause-peer
returns-clause-peer c = peer-accepts-first c.sealed_packets_open.ensures
