use Rattle.ike_window.proofs.Windows.{jumping_raises}
use Rattle.ike_window.proofs.laws.jumping_raises_the_floor.Goals as goal

pub returns : goal.returns
returns c = jumping_raises
