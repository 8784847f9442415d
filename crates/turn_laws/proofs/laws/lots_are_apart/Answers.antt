use Rattle.turn_laws.proofs.Lots.{drawn-below, lot-below, lots-apart}
use Rattle.turn_laws.specs.Places.{Pooled}
use Rattle.turn_laws.proofs.laws.lots_are_apart.Goals as goal

pub returns-clause-below : goal.returns-clause-below
returns-clause-below c = lot-below

pub returns-clause-apart : goal.returns-clause-apart
returns-clause-apart c = lots-apart

pub returns-clause-alone : goal.returns-clause-alone
returns-clause-alone c acts book owned q = (owned.numbers (Pooled q)).alone

pub returns-clause-drawn : goal.returns-clause-drawn
returns-clause-drawn c = drawn-below

pub returns-clause-once : goal.returns-clause-once
returns-clause-once c acts book owned q = (owned.numbers (Pooled q)).once
