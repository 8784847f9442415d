use Rattle.std.proofs.Common.{◌≡◌, ◌≤◌, ◌-◌, length}
use Rattle.ike_grammar.specs.Proposals.{transforms_at}
use Rattle.ike_grammar.proofs.Counted.{with_front}
use Rattle.ike_grammar.proofs.proposals.transforms_of.Given as goal

abbrev pub invariant-loop-index : goal.invariant-loop-index
invariant-loop-index l = record {
  read : with_front l.transforms (transforms_at l.end (l.count - l.index) l.rest) ≡ transforms_at l.end l.count l.fn.bytes;
  within : length l.rest ≤ length l.fn.bytes;
}
