-- What is left has the same first length of a key.
use Rattle.std.proofs.Common.{◌≡◌, map, length}
use Rattle.ike_values.specs.AttributeView.{attribute_value}
use Rattle.resume_exchange.specs.Offers.{key_length}
use Rattle.resume_exchange.proofs.offers.key_length.Given as goal

abbrev pub invariant-loop-rest : goal.invariant-loop-rest
invariant-loop-rest l = key_length (map attribute_value l.rest) ≡ key_length (map attribute_value l.fn.attributes)

abbrev pub decreases-loop-rest : goal.decreases-loop-rest
decreases-loop-rest l = length l.rest
