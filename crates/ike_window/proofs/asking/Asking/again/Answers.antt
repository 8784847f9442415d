use Rattle.ike_window.proofs.Lows.{octets_contained}
use Rattle.ike_window.proofs.asking.Asking.again.Goals as goal

pub returns-clause-none : goal.returns-clause-none
returns-clause-none c = rw (← c.self.view_is) (octets_contained c.args.id c.self.inside.ring.kept c.get.result (λ octets. octets.now.octets) c.get.ensures)
