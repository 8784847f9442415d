use Rattle.std.proofs.Common.{◌≡◌, ◌+◌, ◌≤◌, ◌++◌, length, map}
use Rattle.std.specs.List.{AllByRecursion}
use Rattle.ike_values.specs.ProposalView.{proposal_value}
use Rattle.ike_values.specs.Writing.{proposals_written}
use Rattle.ike_values.specs.Validity.{FitsProposal}
use Rattle.ike_encoding.proofs.proposals.put_proposals.Given as goal

abbrev pub invariant-loop-rest : goal.invariant-loop-rest
invariant-loop-rest l = record {
  written : l.out.octets ++ proposals_written (map proposal_value l.rest) ≡ l.fn.out.octets ++ proposals_written (map proposal_value l.fn.proposals);
  spare : l.fn.out.spare + length (proposals_written (map proposal_value l.rest)) ≤ l.out.spare + length (proposals_written (map proposal_value l.fn.proposals));
  fit : AllByRecursion FitsProposal (map proposal_value l.rest);
}

abbrev pub decreases-loop-rest : goal.decreases-loop-rest
decreases-loop-rest l = length l.rest
