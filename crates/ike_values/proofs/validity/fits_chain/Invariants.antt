use Rattle.std.proofs.Common.{map, false, length}
use Rattle.std.specs.Prelude.{◌↔◌}
use Rattle.ike_values.specs.PayloadView.{payload_value}
use Rattle.ike_values.specs.Validity.{AreValid}
use Rattle.ike_values.proofs.validity.fits_chain.Given as goal

abbrev pub invariant-loop-rest : goal.invariant-loop-rest
invariant-loop-rest l = (AreValid false (map payload_value l.rest)) ↔ (AreValid false (map payload_value l.fn.payloads))

abbrev pub decreases-loop-rest : goal.decreases-loop-rest
decreases-loop-rest l = length l.rest
