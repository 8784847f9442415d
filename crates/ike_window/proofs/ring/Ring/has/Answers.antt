use Rattle.std.proofs.Common.{◌∙◌}
use Rattle.ike_window.proofs.Orders.{found_among}
use Rattle.ike_window.proofs.ring.Ring.has.Goals as goal

pub returns : goal.returns
returns g c = c.is_some.ensures ∙ found_among c.args.id c.args.self.now.kept c.get.result (λ octets. octets.now.octets) c.get.ensures
