-- What a member sends to a peer that resumes, as the answer to its IKE_AUTH.
use Rattle.std.specs.Prelude.{ℕ, List}
use Rattle.ha_base.specs.declared.counter_names.End.TheVariants.{Cluster}
use Rattle.ha_base.specs.declared.identities.Identity.{Identity}
use Rattle.ike_sas.specs.Sending.{SendsIke}
use Rattle.ike_sas.specs.declared.draft.SentMessage.{SentMessage}
use Rattle.ike_values.specs.Values.{PayloadValue}
use Rattle.ike_values.specs.Writing.{numbered_written}
use Rattle.key_schedule.specs.Codes.{auth_code}
use Rattle.resume_exchange.specs.Auth.{keys_of}
use Rattle.resume_exchange.specs.AuthMessages.{auth_header}
use Rattle.resume_exchange.specs.ResumedKeys.{sealing_key}
use Rattle.resume_exchange.specs.declared.half_opens.HalfOpen.{HalfOpen}
use Rattle.resume_exchange.specs.declared.sealing.TheConstants.{FIRST_IV}

-- a message with these inner payloads, the first one that the cluster seals with its key
abbrev pub Replies : HalfOpen → List PayloadValue → SentMessage → Type 0
Replies half_open payloads sent = SendsIke
    (sealing_key (keys_of half_open) half_open.derivation Cluster) FIRST_IV
    (auth_header Cluster half_open.derivation) payloads sent

-- the AUTH code of the member signs its answer to the request to resume, the peer's nonce and its
-- own identity (RFC 7296, section 2.15)
abbrev pub own_code : Identity → HalfOpen → List ℕ
own_code identity half_open =
    auth_code (keys_of half_open).sk_pr half_open.response.octets half_open.derivation.ni
    (numbered_written identity.kind identity.octets)
