use Rattle.std.proofs.Common.{◌≡◌, ◌≤◌, length}
use Rattle.ike_grammar.specs.Chain.{chain_at}
use Rattle.ike_grammar.proofs.Many.{with_items}
use Rattle.ike_grammar.proofs.chain.chain_of.Given as goal

abbrev pub invariant-loop-number : goal.invariant-loop-number
invariant-loop-number l = record {
  read : with_items l.payloads (chain_at l.end l.inner l.number l.rest) ≡ chain_at l.end l.inner l.first l.fn.bytes;
  within : length l.rest ≤ l.end;
}

abbrev pub decreases-loop-number : goal.decreases-loop-number
decreases-loop-number l = length l.rest
