-- What a peer holds of a resumption that it began, and what it sends (RFC 5723, section 4.3).
use Rattle.std.specs.Prelude.{◌≡◌, ℕ, ◌+◌, List, Option, Some, None, MatchOption}
use Rattle.ha_base.specs.Octets.{WithRoom}
use Rattle.ha_base.specs.declared.counter_names.Derivation.{Derivation}
use Rattle.ha_base.specs.declared.counter_names.End.TheVariants.{Peer}
use Rattle.ha_base.specs.declared.identities.GatewayId.{GatewayId}
use Rattle.ha_base.specs.declared.key_material.SaKeys.{SaKeys}
use Rattle.ike_encoding.specs.Messages.{message_written}
use Rattle.ike_sas.specs.Sending.{SendsIke}
use Rattle.ike_sas.specs.declared.draft.SentMessage.{SentMessage}
use Rattle.ike_values.specs.Writing.{numbered_written}
use Rattle.key_schedule.specs.Codes.{auth_code}
use Rattle.resume_exchange.specs.AuthMessages.{all_addresses, auth_header, auth_payloads, identity_payload, offered}
use Rattle.resume_exchange.specs.FirstMessages.{numbered_nonce, resume_request}
use Rattle.resume_exchange.specs.ResumedKeys.{resumed_sa_keys, sealing_key}
use Rattle.resume_exchange.specs.declared.attempts.Attempt.{Attempt}
use Rattle.resume_exchange.specs.declared.attempts.OldKeys.{OldKeys}
use Rattle.resume_exchange.specs.declared.offers.TheConstants.{LEAST_CHILD_SPI}
use Rattle.resume_exchange.specs.declared.sealing.TheConstants.{FIRST_IV}

-- an attempt of this number begins with a request, which is kept to be signed
pub record Begins (number : ℕ) (fresh ticket : List ℕ) (old : OldKeys) (left : Option GatewayId)
    (attempt : Attempt) (sent : WithRoom) : Type 0 where
  pub sent_is : sent.octets ≡ message_written
      (resume_request number (numbered_nonce fresh number) ticket left)
  pub kept_is : attempt.request.octets ≡ sent.octets
  pub number_is : attempt.number ≡ number
  pub nonce_is : attempt.ni ≡ numbered_nonce fresh number
  pub keys_are : attempt.keys ≡ old
  pub waits : attempt.awaited ≡ None

-- what the keys are derived from, once the member named itself and gave its nonce
abbrev pub derivation_with : Attempt → ℕ → List ℕ → Derivation
derivation_with attempt spir nr = record {
  old_spir = attempt.keys.spir;
  ni = attempt.ni;
  nr = nr;
  spii = attempt.number;
  spir = spir;
}

-- the keys of what an attempt resumes
abbrev pub keys_of_attempt : OldKeys → Derivation → SaKeys
keys_of_attempt old from = resumed_sa_keys old.sk_d old.size from

-- the code signs the request that the peer sent, the member's nonce and the peer's identity (RFC
-- 7296, section 2.15)
abbrev pub peer_code : OldKeys → Derivation → List ℕ → List ℕ
peer_code old from request =
    auth_code (keys_of_attempt old from).sk_pi request from.nr
    (numbered_written old.identity.kind old.identity.octets)

-- the SPI at which an end receives in the Child SA
abbrev pub child_spi : ℕ → ℕ
child_spi number = LEAST_CHILD_SPI + number

-- the peer's IKE_AUTH, after a request of these octets
abbrev pub SendsAuth : OldKeys → Derivation → List ℕ → SentMessage → Type 0
SendsAuth old from request sent = SendsIke
    (sealing_key (keys_of_attempt old from) from Peer) FIRST_IV (auth_header Peer from)
    (auth_payloads (identity_payload Peer old.identity) (peer_code old from request)
    (offered 1 (child_spi from.spii) old.size) all_addresses all_addresses) sent

-- the attempt awaits the response to its IKE_AUTH; the octets of the answer are kept to be signed
pub record Awaits (old : Attempt) (from : Derivation) (octets : List ℕ) (new : Attempt) :
    Type 0 where
  pub awaited_is : MatchOption new.awaited ⊥
      (λ awaited. (awaited.from ≡ from) × (awaited.response.octets ≡ octets))
  pub number_is : new.number ≡ old.number
  pub nonce_is : new.ni ≡ old.ni
  pub keys_are : new.keys ≡ old.keys
  pub request_is : new.request ≡ old.request
