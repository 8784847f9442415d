use Rattle.std.proofs.Common.{map, length}
use Rattle.std.specs.Prelude.{◌↔◌}
use Rattle.std.specs.List.{AllByRecursion}
use Rattle.ike_values.specs.TransformView.{transform_value}
use Rattle.ike_values.specs.Validity.{FitsTransform}
use Rattle.ike_values.proofs.validity.all_transforms_fit.Given as goal

abbrev pub invariant-loop-rest : goal.invariant-loop-rest
invariant-loop-rest l = (AllByRecursion FitsTransform (map transform_value l.rest)) ↔ (AllByRecursion FitsTransform (map transform_value l.fn.transforms))

abbrev pub decreases-loop-rest : goal.decreases-loop-rest
decreases-loop-rest l = length l.rest
