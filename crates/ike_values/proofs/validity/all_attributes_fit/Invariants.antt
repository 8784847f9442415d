use Rattle.std.proofs.Common.{map, length}
use Rattle.std.specs.Prelude.{◌↔◌}
use Rattle.std.specs.List.{AllByRecursion}
use Rattle.ike_values.specs.AttributeView.{attribute_value}
use Rattle.ike_values.specs.Validity.{FitsAttribute}
use Rattle.ike_values.proofs.validity.all_attributes_fit.Given as goal

abbrev pub invariant-loop-rest : goal.invariant-loop-rest
invariant-loop-rest l = (AllByRecursion FitsAttribute (map attribute_value l.rest)) ↔ (AllByRecursion FitsAttribute (map attribute_value l.fn.attributes))

abbrev pub decreases-loop-rest : goal.decreases-loop-rest
decreases-loop-rest l = length l.rest
