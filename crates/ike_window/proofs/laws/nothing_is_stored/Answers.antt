use Rattle.ike_window.proofs.Windows.{nothing_stored}
use Rattle.ike_window.proofs.laws.nothing_is_stored.Goals as goal

pub returns : goal.returns
returns c = nothing_stored
