use Rattle.turn_laws.proofs.Settled.{lease-lot, lease-owned}
use Rattle.turn_laws.proofs.laws.leases_keep_owned.Goals as goal

pub returns-clause-owned : goal.returns-clause-owned
returns-clause-owned c = lease-owned

pub returns-clause-lot : goal.returns-clause-lot
returns-clause-lot c = lease-lot
