use Rattle.ike_window.proofs.Windows.{raising_gives}
use Rattle.ike_window.proofs.laws.raising_gives_one_window.Goals as goal

pub returns : goal.returns
returns c = raising_gives
