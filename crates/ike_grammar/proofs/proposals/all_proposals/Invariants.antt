use Rattle.std.proofs.Common.{◌≡◌, ◌≤◌, length}
use Rattle.ike_grammar.specs.Faults.{many}
use Rattle.ike_grammar.specs.Proposals.{proposal_at}
use Rattle.ike_grammar.proofs.Many.{with_items}
use Rattle.ike_grammar.proofs.proposals.all_proposals.Given as goal

abbrev pub invariant-loop-rest : goal.invariant-loop-rest
invariant-loop-rest l = record {
  read : with_items l.proposals (many (proposal_at l.end) l.rest) ≡ many (proposal_at l.end) l.fn.body;
  within : length l.rest ≤ l.end;
}

abbrev pub decreases-loop-rest : goal.decreases-loop-rest
decreases-loop-rest l = length l.rest
