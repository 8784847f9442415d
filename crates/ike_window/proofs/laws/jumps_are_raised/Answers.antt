use Rattle.ike_window.proofs.Windows.{jumps_raise}
use Rattle.ike_window.proofs.laws.jumps_are_raised.Goals as goal

pub returns : goal.returns
returns c = jumps_raise
