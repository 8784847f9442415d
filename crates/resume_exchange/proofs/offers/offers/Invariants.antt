-- What is left offers the transform or not as the whole does.
use Rattle.std.proofs.Common.{◌≡◌, map, length}
use Rattle.std.specs.List.{list_any}
use Rattle.ike_values.specs.TransformView.{transform_value}
use Rattle.resume_exchange.specs.Offers.{is_transform}
use Rattle.resume_exchange.proofs.offers.offers.Given as goal

abbrev pub invariant-loop-rest : goal.invariant-loop-rest
invariant-loop-rest l = list_any (is_transform l.fn.kind l.fn.id) (map transform_value l.rest) ≡ list_any (is_transform l.fn.kind l.fn.id) (map transform_value l.fn.transforms)

abbrev pub decreases-loop-rest : goal.decreases-loop-rest
decreases-loop-rest l = length l.rest
