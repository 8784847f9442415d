use Rattle.turn_laws.proofs.Replaced.{calls-later, holding-later}
use Rattle.turn_laws.proofs.traces.replaced_by_later_epochs.Goals as goal

pub returns-clause-holdings : goal.returns-clause-holdings
returns-clause-holdings c = holding-later

pub returns-clause-calls : goal.returns-clause-calls
returns-clause-calls c = calls-later
