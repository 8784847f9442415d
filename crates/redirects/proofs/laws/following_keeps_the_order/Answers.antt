use Rattle.redirects.proofs.Loops.{order_kept}
use Rattle.redirects.proofs.laws.following_keeps_the_order.Goals as goal

pub returns : goal.returns
returns c = order_kept
