use Rattle.ike_window.proofs.Windows.{answered_are}
use Rattle.ike_window.proofs.laws.answered_are_stored.Goals as goal

pub returns : goal.returns
returns c = answered_are
