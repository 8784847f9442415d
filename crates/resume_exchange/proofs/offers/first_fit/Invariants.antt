-- What is left has the same first proposal that fits.
use Rattle.std.proofs.Common.{◌≡◌, map, length}
use Rattle.ike_values.specs.ProposalView.{proposal_value}
use Rattle.resume_exchange.specs.Offers.{first_fit}
use Rattle.resume_exchange.proofs.offers.first_fit.Given as goal

abbrev pub invariant-loop-rest : goal.invariant-loop-rest
invariant-loop-rest l = first_fit l.fn.size (map proposal_value l.rest) ≡ first_fit l.fn.size l.fn.proposals

abbrev pub decreases-loop-rest : goal.decreases-loop-rest
decreases-loop-rest l = length l.rest
