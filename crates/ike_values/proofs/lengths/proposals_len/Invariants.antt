use Rattle.std.proofs.Common.{◌≡◌, ◌+◌, ◌≤◌, min, length, map}
use Rattle.ike_values.specs.ProposalView.{proposal_value}
use Rattle.ike_values.specs.Writing.{proposals_written}
use Rattle.ike_values.proofs.lengths.proposals_len.Given as goal

abbrev pub invariant-loop-rest : goal.invariant-loop-rest
invariant-loop-rest l = record {
  within : l.len ≤ 65536;
  total : min 65536 (l.len + length (proposals_written (map proposal_value l.rest))) ≡ min 65536 (length (proposals_written (map proposal_value l.fn.proposals)));
}

abbrev pub decreases-loop-rest : goal.decreases-loop-rest
decreases-loop-rest l = length l.rest
