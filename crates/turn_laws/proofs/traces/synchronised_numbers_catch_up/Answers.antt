use Rattle.turn_laws.proofs.CatchingUp.{catches-up}
use Rattle.turn_laws.proofs.traces.synchronised_numbers_catch_up.Goals as goal

pub returns : goal.returns
returns c = catches-up
