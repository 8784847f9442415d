-- What is left has the same first notification of the type.
use Rattle.std.proofs.Common.{◌≡◌, map, length}
use Rattle.ike_values.specs.PayloadView.{payload_value}
use Rattle.ike_values.specs.Notifications.{first_notify}
use Rattle.ike_values.proofs.notifications.first_notify.Given as goal

abbrev pub invariant-loop-rest : goal.invariant-loop-rest
invariant-loop-rest l = first_notify l.fn.kind (map payload_value l.rest) ≡ first_notify l.fn.kind (map payload_value l.fn.payloads)

abbrev pub decreases-loop-rest : goal.decreases-loop-rest
decreases-loop-rest l = length l.rest
