use Rattle.turn_laws.proofs.LotsLeft.{told-lots}
use Rattle.turn_laws.proofs.Theirs.{told_theirs-held}
use Rattle.turn_laws.proofs.Told.{told-held}
use Rattle.turn_laws.proofs.traces.own_turns_tell_holdings.Goals as goal

pub returns-clause-members : goal.returns-clause-members
returns-clause-members c = told-held

pub returns-clause-peer : goal.returns-clause-peer
returns-clause-peer c = told_theirs-held

pub returns-clause-tickets : goal.returns-clause-tickets
returns-clause-tickets c = told-lots
