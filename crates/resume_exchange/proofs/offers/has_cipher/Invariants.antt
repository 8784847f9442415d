-- What is left offers the cipher or not as the whole does.
use Rattle.std.proofs.Common.{◌≡◌, map, length}
use Rattle.std.specs.List.{list_any}
use Rattle.ike_values.specs.TransformView.{transform_value}
use Rattle.resume_exchange.specs.Offers.{is_cipher}
use Rattle.resume_exchange.proofs.offers.has_cipher.Given as goal

abbrev pub invariant-loop-rest : goal.invariant-loop-rest
invariant-loop-rest l = list_any (is_cipher l.fn.size) (map transform_value l.rest) ≡ list_any (is_cipher l.fn.size) (map transform_value l.fn.transforms)

abbrev pub decreases-loop-rest : goal.decreases-loop-rest
decreases-loop-rest l = length l.rest
