use Rattle.ike_values.specs.Values.{AttributeValue, fixed, free}
use Rattle.ike_values.specs.declared.attribute.Attribute.{Attribute}
use Rattle.ike_values.specs.declared.attribute.Attribute.TheVariants.{Fixed, Free}

-- what an attribute of the code is
abbrev pub attribute_value : Attribute → AttributeValue
attribute_value (Fixed kind value) = fixed kind value
attribute_value (Free kind value) = free kind value.octets
