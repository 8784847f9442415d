use Rattle.std.proofs.Common.{◌≡◌, ◌≤◌, ◌-◌, length}
use Rattle.ike_grammar.specs.Faults.{so_many}
use Rattle.ike_grammar.specs.Selectors.{selector_at}
use Rattle.ike_grammar.proofs.Counted.{with_front}
use Rattle.ike_grammar.proofs.selectors.selectors_of.Given as goal

abbrev pub invariant-loop : goal.invariant-loop
invariant-loop l = record {
  read : with_front l.selectors (so_many (selector_at l.end) (l.count - l.counter) l.rest) ≡ so_many (selector_at l.end) l.count l.fn.bytes;
  within : length l.rest ≤ length l.fn.bytes;
}
