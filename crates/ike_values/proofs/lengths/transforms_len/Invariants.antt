use Rattle.std.proofs.Common.{◌≡◌, ◌+◌, ◌≤◌, min, length, map}
use Rattle.ike_values.specs.TransformView.{transform_value}
use Rattle.ike_values.specs.Writing.{transforms_written}
use Rattle.ike_values.proofs.lengths.transforms_len.Given as goal

abbrev pub invariant-loop-rest : goal.invariant-loop-rest
invariant-loop-rest l = record {
  within : l.len ≤ 65536;
  total : min 65536 (l.len + length (transforms_written (map transform_value l.rest))) ≡ min 65536 (length (transforms_written (map transform_value l.fn.transforms)));
}

abbrev pub decreases-loop-rest : goal.decreases-loop-rest
decreases-loop-rest l = length l.rest
