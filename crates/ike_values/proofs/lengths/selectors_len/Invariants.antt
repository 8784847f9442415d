use Rattle.std.proofs.Common.{◌≡◌, ◌+◌, ◌≤◌, min, length, map}
use Rattle.ike_values.specs.SelectorView.{selector_value}
use Rattle.ike_values.specs.Spelling.{selectors_spelling}
use Rattle.ike_values.proofs.lengths.selectors_len.Given as goal

abbrev pub invariant-loop-rest : goal.invariant-loop-rest
invariant-loop-rest l = record {
  within : l.len ≤ 65536;
  total : min 65536 (l.len + length (selectors_spelling (map selector_value l.rest))) ≡ min 65536 (length (selectors_spelling (map selector_value l.fn.selectors)));
}

abbrev pub decreases-loop-rest : goal.decreases-loop-rest
decreases-loop-rest l = length l.rest
