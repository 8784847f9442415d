-- What is left has the same first SPI.
use Rattle.std.proofs.Common.{◌≡◌, map, length}
use Rattle.ike_values.specs.ProposalView.{proposal_value}
use Rattle.resume_exchange.specs.MemberProofs.{first_esp_spi}
use Rattle.resume_exchange.proofs.peer_auth.first_esp_spi.Given as goal

abbrev pub invariant-loop-rest : goal.invariant-loop-rest
invariant-loop-rest l = first_esp_spi (map proposal_value l.rest) ≡ first_esp_spi l.fn.proposals

abbrev pub decreases-loop-rest : goal.decreases-loop-rest
decreases-loop-rest l = length l.rest
