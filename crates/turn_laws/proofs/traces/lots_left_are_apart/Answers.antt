use Rattle.turn_laws.proofs.LotsLeft.{left-apart, left-leased, left-unissued}
use Rattle.turn_laws.proofs.traces.lots_left_are_apart.Goals as goal

pub returns-clause-leased : goal.returns-clause-leased
returns-clause-leased c = left-leased

pub returns-clause-apart : goal.returns-clause-apart
returns-clause-apart c = left-apart

pub returns-clause-unissued : goal.returns-clause-unissued
returns-clause-unissued c = left-unissued
