use Rattle.ike_window.proofs.Windows.{raising_no_more}
use Rattle.ike_window.proofs.laws.raising_by_no_more_keeps_all.Goals as goal

pub returns : goal.returns
returns c = raising_no_more
