use Rattle.std.proofs.Common.{◌≡◌, ◌+◌, ◌≤◌, ◌++◌, length, map}
use Rattle.std.specs.List.{AllByRecursion}
use Rattle.ike_values.specs.SelectorView.{selector_value}
use Rattle.ike_values.specs.Spelling.{selectors_spelling}
use Rattle.ike_values.specs.Validity.{FitsSelector}
use Rattle.ike_encoding.proofs.selectors.put_selectors.Given as goal

abbrev pub invariant-loop-rest : goal.invariant-loop-rest
invariant-loop-rest l = record {
  written : l.out.octets ++ selectors_spelling (map selector_value l.rest) ≡ l.fn.out.octets ++ selectors_spelling (map selector_value l.fn.selectors);
  spare : l.fn.out.spare + length (selectors_spelling (map selector_value l.rest)) ≤ l.out.spare + length (selectors_spelling (map selector_value l.fn.selectors));
  fit : AllByRecursion FitsSelector (map selector_value l.rest);
}

abbrev pub decreases-loop-rest : goal.decreases-loop-rest
decreases-loop-rest l = length l.rest
