use Rattle.ike_window.proofs.Windows.{made_window}
use Rattle.ike_window.proofs.laws.responses_have_a_window.Goals as goal

pub returns : goal.returns
returns c = made_window
