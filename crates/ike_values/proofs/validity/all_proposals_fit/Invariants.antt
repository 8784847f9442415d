use Rattle.std.proofs.Common.{map, length}
use Rattle.std.specs.Prelude.{◌↔◌}
use Rattle.std.specs.List.{AllByRecursion}
use Rattle.ike_values.specs.ProposalView.{proposal_value}
use Rattle.ike_values.specs.Validity.{FitsProposal}
use Rattle.ike_values.proofs.validity.all_proposals_fit.Given as goal

abbrev pub invariant-loop-rest : goal.invariant-loop-rest
invariant-loop-rest l = (AllByRecursion FitsProposal (map proposal_value l.rest)) ↔ (AllByRecursion FitsProposal (map proposal_value l.fn.proposals))

abbrev pub decreases-loop-rest : goal.decreases-loop-rest
decreases-loop-rest l = length l.rest
