use Rattle.ike_window.proofs.Windows.{new_from_floor}
use Rattle.ike_window.proofs.laws.new_are_from_the_floor_on.Goals as goal

pub returns : goal.returns
returns c = new_from_floor
