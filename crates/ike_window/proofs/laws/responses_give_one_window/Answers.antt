use Rattle.ike_window.proofs.Windows.{one_window}
use Rattle.ike_window.proofs.laws.responses_give_one_window.Goals as goal

pub returns : goal.returns
returns c = one_window
