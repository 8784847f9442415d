use Rattle.std.proofs.Common.{map, length}
use Rattle.std.specs.Prelude.{◌↔◌}
use Rattle.std.specs.List.{AllByRecursion}
use Rattle.ike_values.specs.SelectorView.{selector_value}
use Rattle.ike_values.specs.Validity.{FitsSelector}
use Rattle.ike_values.proofs.validity.all_selectors_fit.Given as goal

abbrev pub invariant-loop-rest : goal.invariant-loop-rest
invariant-loop-rest l = (AllByRecursion FitsSelector (map selector_value l.rest)) ↔ (AllByRecursion FitsSelector (map selector_value l.fn.selectors))

abbrev pub decreases-loop-rest : goal.decreases-loop-rest
decreases-loop-rest l = length l.rest
