use Rattle.turn_laws.proofs.Ends.{counters-end, numbers-end, uses-end}
use Rattle.turn_laws.proofs.traces.no_number_past_its_end.Goals as goal

pub returns-clause-uses : goal.returns-clause-uses
returns-clause-uses c = uses-end

pub returns-clause-places : goal.returns-clause-places
returns-clause-places c = numbers-end

pub returns-clause-counters : goal.returns-clause-counters
returns-clause-counters c = counters-end
