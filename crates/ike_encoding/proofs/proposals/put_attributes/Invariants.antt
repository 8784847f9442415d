use Rattle.std.proofs.Common.{◌≡◌, ◌+◌, ◌≤◌, ◌++◌, length, map}
use Rattle.std.specs.List.{AllByRecursion}
use Rattle.ike_values.specs.AttributeView.{attribute_value}
use Rattle.ike_values.specs.Spelling.{attributes_spelling}
use Rattle.ike_values.specs.Validity.{FitsAttribute}
use Rattle.ike_encoding.proofs.proposals.put_attributes.Given as goal

abbrev pub invariant-loop-rest : goal.invariant-loop-rest
invariant-loop-rest l = record {
  written : l.out.octets ++ attributes_spelling (map attribute_value l.rest) ≡ l.fn.out.octets ++ attributes_spelling (map attribute_value l.fn.attributes);
  spare : l.fn.out.spare + length (attributes_spelling (map attribute_value l.rest)) ≤ l.out.spare + length (attributes_spelling (map attribute_value l.fn.attributes));
  fit : AllByRecursion FitsAttribute (map attribute_value l.rest);
}

abbrev pub decreases-loop-rest : goal.decreases-loop-rest
decreases-loop-rest l = length l.rest
