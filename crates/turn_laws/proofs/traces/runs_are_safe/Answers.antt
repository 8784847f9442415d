use Rattle.turn_laws.proofs.Safe.{safe-run}
use Rattle.turn_laws.proofs.traces.runs_are_safe.Goals as goal

pub returns : goal.returns
returns c boxes past book local stands = safe-run boxes past book local stands (c.genuine_are_accepted.ensures.runs boxes past local)
