use Rattle.ike_window.proofs.Windows.{answered_have}
use Rattle.ike_window.proofs.laws.answered_have_a_response.Goals as goal

pub returns : goal.returns
returns c = answered_have
