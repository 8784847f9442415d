-- What is left has the same first payload of the type.
use Rattle.std.proofs.Common.{◌≡◌, map, length}
use Rattle.ike_values.specs.PayloadView.{payload_value}
use Rattle.resume_exchange.specs.Parts.{first_of}
use Rattle.resume_exchange.specs.MemberProofs.{idr_data}
use Rattle.resume_exchange.proofs.peer_auth.first_responder_identity.Given as goal

abbrev pub invariant-loop-rest : goal.invariant-loop-rest
invariant-loop-rest l = first_of idr_data (map payload_value l.rest) ≡ first_of idr_data (map payload_value l.fn.payloads)

abbrev pub decreases-loop-rest : goal.decreases-loop-rest
decreases-loop-rest l = length l.rest
