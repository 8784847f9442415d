use Rattle.ike_window.proofs.Windows.{storing_adds}
use Rattle.ike_window.proofs.laws.storing_adds_the_response.Goals as goal

pub returns : goal.returns
returns c = storing_adds
