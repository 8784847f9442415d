-- Room for what the answer to a request writes.
use Rattle.std.specs.Prelude.{◌≡◌, ◌≤◌, []}
use Rattle.ha_base.specs.Octets.{WithRoom}
use Rattle.ha_base.specs.declared.services.TheConstants.{LONGEST_REQUEST}
use Rattle.ike_sas.specs.declared.answers.TheConstants.{ANSWER_OCTETS, LONGEST_REPLY}
use Rattle.sk_payload.specs.Framed.{Framed}

-- nothing was written, and the answer fits, and the longest request and reply that are noted
pub record IsAnswerRoom (draft : Framed) (request reply : WithRoom) : Type 0 where
  pub empty : draft.payloads ≡ []
  pub answer_fits : ANSWER_OCTETS ≤ draft.room
  pub no_request : request.octets ≡ []
  pub request_fits : LONGEST_REQUEST ≤ request.spare
  pub no_reply : reply.octets ≡ []
  pub reply_fits : LONGEST_REPLY ≤ reply.spare
