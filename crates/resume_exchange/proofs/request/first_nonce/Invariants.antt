-- What is left has the same first nonce.
use Rattle.std.proofs.Common.{◌≡◌, map, length}
use Rattle.ike_values.specs.PayloadView.{payload_value}
use Rattle.resume_exchange.specs.Requests.{first_nonce}
use Rattle.resume_exchange.proofs.request.first_nonce.Given as goal

abbrev pub invariant-loop-rest : goal.invariant-loop-rest
invariant-loop-rest l = first_nonce (map payload_value l.rest) ≡ first_nonce (map payload_value l.fn.payloads)

abbrev pub decreases-loop-rest : goal.decreases-loop-rest
decreases-loop-rest l = length l.rest
