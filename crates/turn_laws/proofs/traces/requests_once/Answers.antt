use Rattle.turn_laws.proofs.Accepted.{requests-once}
use Rattle.turn_laws.proofs.Safe.{served-once}
use Rattle.turn_laws.proofs.traces.requests_once.Goals as goal

pub returns-clause-once : goal.returns-clause-once
returns-clause-once c = requests-once

pub returns-clause-served : goal.returns-clause-served
returns-clause-served c = served-once
