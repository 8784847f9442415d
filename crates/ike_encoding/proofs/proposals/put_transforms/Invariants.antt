use Rattle.std.proofs.Common.{◌≡◌, ◌+◌, ◌≤◌, ◌++◌, length, map}
use Rattle.std.specs.List.{AllByRecursion}
use Rattle.ike_values.specs.TransformView.{transform_value}
use Rattle.ike_values.specs.Writing.{transforms_written}
use Rattle.ike_values.specs.Validity.{FitsTransform}
use Rattle.ike_encoding.proofs.proposals.put_transforms.Given as goal

abbrev pub invariant-loop-rest : goal.invariant-loop-rest
invariant-loop-rest l = record {
  written : l.out.octets ++ transforms_written (map transform_value l.rest) ≡ l.fn.out.octets ++ transforms_written (map transform_value l.fn.transforms);
  spare : l.fn.out.spare + length (transforms_written (map transform_value l.rest)) ≤ l.out.spare + length (transforms_written (map transform_value l.fn.transforms));
  fit : AllByRecursion FitsTransform (map transform_value l.rest);
}

abbrev pub decreases-loop-rest : goal.decreases-loop-rest
decreases-loop-rest l = length l.rest
