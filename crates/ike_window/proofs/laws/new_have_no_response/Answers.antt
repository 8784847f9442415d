use Rattle.ike_window.proofs.Windows.{new_have_none}
use Rattle.ike_window.proofs.laws.new_have_no_response.Goals as goal

pub returns : goal.returns
returns c = new_have_none
