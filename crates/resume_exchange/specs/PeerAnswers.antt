-- What a peer makes of an answer to its request to resume (RFC 5723, section 4.3.2). Of the
-- notifications and the nonce that it may hold, the first that is there counts, in the order
-- COOKIE, REDIRECT, TICKET_NACK, nonce; cookies are not taken up.
use Rattle.std.specs.Prelude.{◌≡◌, ◌≢◌, ℕ, Bool, true, false, List, length, Some, None, is_some, Result, Ok, Err}
use Rattle.ike_sas.specs.declared.draft.SentMessage.{SentMessage}
use Rattle.ike_values.specs.Notifications.{first_notify}
use Rattle.ike_values.specs.declared.header.Message.{Message}
use Rattle.ike_values.specs.declared.notify_types.TheConstants.{COOKIE, REDIRECT, TICKET_NACK}
use Rattle.ha_base.specs.declared.identities.GatewayId.{GatewayId}
use Rattle.redirects.specs.Notifications.{HasRedirect, SpellsRedirect}
use Rattle.resume_exchange.specs.Attempts.{Awaits, SendsAuth, derivation_with}
use Rattle.resume_exchange.specs.Requests.{first_nonce}
use Rattle.resume_exchange.specs.declared.attempts.Attempt.{Attempt}
use Rattle.resume_exchange.specs.declared.drops.ResumeDrop.TheVariants as drop
use Rattle.resume_exchange.specs.declared.peer_answers.PeerAnswer.{PeerAnswer}
use Rattle.resume_exchange.specs.declared.peer_answers.PeerAnswer.TheVariants as answer
use Rattle.resume_exchange.specs.declared.request.TheConstants.{NONCE_OCTETS}

-- an answer without a cookie
pub record IsPlain (message : Message) : Type 0 where
  pub id : message.header.id ≡ 0
  pub no_cookie : first_notify COOKIE message.payloads ≡ None

-- the peer is to go to another gateway; the nonce is to be its own
pub record SaysRedirect (message : Message) (gateway : GatewayId) (nonce : List ℕ) :
    Type 0 where
  pub plain : IsPlain message
  pub octets : List ℕ
  pub redirect : first_notify REDIRECT message.payloads ≡ Some octets
  pub spelled : SpellsRedirect gateway nonce octets

-- the ticket is not taken
pub record SaysNack (message : Message) : Type 0 where
  pub plain : IsPlain message
  pub no_redirect : first_notify REDIRECT message.payloads ≡ None
  pub nack : is_some (first_notify TICKET_NACK message.payloads) ≡ true

-- the member names itself, and gives a nonce
pub record OffersNonce (message : Message) (nr : List ℕ) : Type 0 where
  pub nonce : first_nonce message.payloads ≡ Some nr
  pub size : length nr ≡ NONCE_OCTETS
  pub spir : message.header.spir ≢ 0

-- the ticket is taken
pub record SaysNonce (message : Message) (nr : List ℕ) : Type 0 where
  pub plain : IsPlain message
  pub no_redirect : first_notify REDIRECT message.payloads ≡ None
  pub no_nack : first_notify TICKET_NACK message.payloads ≡ None
  pub offers : OffersNonce message nr

-- none of the three
pub record SaysNothing (message : Message) : Type 0 where
  pub no_redirect : (gateway : GatewayId) (nonce : List ℕ) → ¬ SaysRedirect message gateway nonce
  pub no_nack : ¬ SaysNack message
  pub no_nonce : (nr : List ℕ) → ¬ SaysNonce message nr

-- the answer is the first, and this is what it says
pub record IsFirstAnswer (attempt : Attempt) (Says : Type 0) : Type 0 where
  pub waits : attempt.awaited ≡ None
  pub says : Says

-- the keys are derived, the IKE_AUTH signs the last request, and its response is awaited
pub record Authenticates (old : Attempt) (message : Message) (octets nr : List ℕ)
    (spir : ℕ) (sent : SentMessage) (new : Attempt) : Type 0 where
  pub spir_is : spir ≡ message.header.spir
  pub sends : SendsAuth old.keys (derivation_with old spir nr) old.request.octets sent
  pub awaits : Awaits old (derivation_with old spir nr) octets new

-- what is made of the data of a redirect
abbrev pub IsRedirectAnswer : List ℕ → PeerAnswer → Type 0
IsRedirectAnswer octets (answer.Redirect gateway nonce) =
    SpellsRedirect gateway nonce.octets octets
IsRedirectAnswer octets (answer.Dropped drop.Form) = ¬ HasRedirect octets
IsRedirectAnswer octets other = ⊥

-- what is made of an answer of these octets, where an association may have its responder's SPI
abbrev pub IsResumeAnswer :
    Attempt → Message → List ℕ → Bool → PeerAnswer → Attempt → Type 0
IsResumeAnswer old message octets in_use (answer.Nr spir sent) new =
    (nr : List ℕ) × IsFirstAnswer old (SaysNonce message nr) × (in_use ≡ false)
    × Authenticates old message octets nr spir sent new
IsResumeAnswer old message octets in_use answer.Nacked new =
    IsFirstAnswer old (SaysNack message) × (new ≡ old)
IsResumeAnswer old message octets in_use (answer.Redirect gateway nonce) new =
    IsFirstAnswer old (SaysRedirect message gateway nonce.octets) × (new ≡ old)
IsResumeAnswer old message octets in_use (answer.Dropped drop.NotAsked) new =
    (is_some old.awaited ≡ true) × (new ≡ old)
IsResumeAnswer old message octets in_use (answer.Dropped drop.Form) new =
    IsFirstAnswer old (SaysNothing message) × (new ≡ old)
IsResumeAnswer old message octets in_use (answer.Dropped drop.SpiInUse) new =
    ((nr : List ℕ) × IsFirstAnswer old (SaysNonce message nr)) × (in_use ≡ true) × (new ≡ old)
IsResumeAnswer old message octets in_use (answer.Dropped why) new = ⊥
