use Rattle.turn_laws.proofs.Accepted.{packets-once}
use Rattle.turn_laws.proofs.traces.packets_once.Goals as goal

pub returns : goal.returns
returns c = packets-once
