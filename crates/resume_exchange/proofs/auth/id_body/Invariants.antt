use Rattle.std.proofs.Common.{◌≡◌, take}
use Rattle.ike_values.specs.Writing.{numbered_written}
use Rattle.resume_exchange.proofs.auth.id_body.Given as goal

abbrev pub invariant-loop-octet : goal.invariant-loop-octet
invariant-loop-octet l = l.body ≡ numbered_written l.fn.identity.kind (take l.octet-index l.octet-items)
