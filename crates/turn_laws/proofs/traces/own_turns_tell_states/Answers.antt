-- What the turns make is what own turns tell.
use Rattle.turn_laws.proofs.traces.own_turns_tell_states.Goals as goal
use Rattle.turn_rules.proofs.StateLaws.{states-explained}

pub returns : goal.returns
returns c boxes past local = states-explained boxes past local
