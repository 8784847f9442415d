use Rattle.turn_laws.proofs.CatchingUp.{all-catch-up}
use Rattle.turn_laws.proofs.traces.all_synchronisations_catch_up.Goals as goal

pub returns : goal.returns
returns c = all-catch-up
