use Rattle.ike_values.specs.Values.{TransformValue}
use Rattle.ike_values.specs.declared.transform.Transform.{Transform}

-- what a transform of the code is
abbrev pub transform_value : Transform → TransformValue
transform_value x = record { kind = x.kind; id = x.id; attributes = x.attributes }
