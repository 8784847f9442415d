use Rattle.ike_sas.proofs.Asked.{below_ended}
use Rattle.ike_sas.proofs.sa.IkeSa.end_request.Goals as goal

pub invariant_of-self : goal.invariant_of-self
invariant_of-self c = rw c.answered.ensures.ended (below_ended c.self.inside.next c.args.id c.self.inside.asking c.self.invariant)
