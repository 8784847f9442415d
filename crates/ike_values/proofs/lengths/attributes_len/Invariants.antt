use Rattle.std.proofs.Common.{◌≡◌, ◌+◌, ◌≤◌, min, length, map}
use Rattle.ike_values.specs.AttributeView.{attribute_value}
use Rattle.ike_values.specs.Spelling.{attributes_spelling}
use Rattle.ike_values.proofs.lengths.attributes_len.Given as goal

abbrev pub invariant-loop-rest : goal.invariant-loop-rest
invariant-loop-rest l = record {
  within : l.len ≤ 65536;
  total : min 65536 (l.len + length (attributes_spelling (map attribute_value l.rest))) ≡ min 65536 (length (attributes_spelling (map attribute_value l.fn.attributes)));
}

abbrev pub decreases-loop-rest : goal.decreases-loop-rest
decreases-loop-rest l = length l.rest
