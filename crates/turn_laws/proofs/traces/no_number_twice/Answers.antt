use Rattle.turn_laws.proofs.LotsLeft.{tickets-once}
use Rattle.turn_laws.proofs.All.{counters-once, numbers-once}
use Rattle.turn_laws.proofs.traces.no_number_twice.Goals as goal

pub returns-clause-places : goal.returns-clause-places
returns-clause-places c = numbers-once

pub returns-clause-counters : goal.returns-clause-counters
returns-clause-counters c = counters-once

pub returns-clause-tickets : goal.returns-clause-tickets
returns-clause-tickets c = tickets-once
