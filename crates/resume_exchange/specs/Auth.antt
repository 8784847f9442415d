-- What a member makes of the payloads of an IKE_AUTH before it asks the keeper: the first case
-- that applies.
use Rattle.std.specs.Prelude.{◌≡◌, ◌≢◌, ℕ, ◌<◌, ◌≤◌, List, None, Some}
use Rattle.ha_base.specs.declared.key_material.SaKeys.{SaKeys}
use Rattle.key_schedule.specs.Codes.{auth_code}
use Rattle.ike_values.specs.Values.{IdValue, PayloadValue, ProposalValue}
use Rattle.ike_values.specs.Writing.{numbered_written}
use Rattle.resume_exchange.specs.declared.auth.AuthJudged.{AuthJudged}
use Rattle.resume_exchange.specs.declared.auth.AuthJudged.TheVariants.{Payload, Identity, Code}
use Rattle.resume_exchange.specs.declared.auth.AuthJudged.TheVariants.{NoProposal, Expired, Correct}
use Rattle.resume_exchange.specs.declared.half_opens.HalfOpen.{HalfOpen}
use Rattle.resume_exchange.specs.Offers.{first_fit}
use Rattle.resume_exchange.specs.Parts.{HasParts}
use Rattle.resume_exchange.specs.ResumedKeys.{resumed_sa_keys}

-- the keys of the resumed association (RFC 5723, section 5.1)
abbrev pub keys_of : HalfOpen → SaKeys
keys_of half_open =
    resumed_sa_keys half_open.content.sk_d half_open.content.size half_open.derivation

-- the AUTH code of the peer signs its request to resume, the member's nonce and its identity (RFC
-- 7296, section 2.15)
abbrev pub right_code : HalfOpen → List ℕ
right_code half_open =
    let identity = half_open.content.identity in
    auth_code (keys_of half_open).sk_pi half_open.request.octets half_open.derivation.nr
    (numbered_written identity.kind identity.octets)

-- the identity is the one that the ticket names
abbrev pub IsNamed : HalfOpen → IdValue → Type 0
IsNamed half_open identity =
    let named = half_open.content.identity in
    identity ≡ record { kind = named.kind; content = named.octets }

-- the payloads are there, and the peer that the ticket names made the code
abbrev pub IsAuthentic : HalfOpen → List PayloadValue → List ProposalValue → Type 0
IsAuthentic half_open payloads proposals =
    (identity : IdValue) × HasParts payloads identity (right_code half_open) proposals
    × IsNamed half_open identity

abbrev pub IsAuthJudged : HalfOpen → ℕ → List PayloadValue → AuthJudged → Type 0
IsAuthJudged half_open now payloads Payload =
    (identity : IdValue) (code : List ℕ) (proposals : List ProposalValue) →
    ¬ HasParts payloads identity code proposals
IsAuthJudged half_open now payloads Identity =
    (identity : IdValue) × (code : List ℕ) × (proposals : List ProposalValue)
    × HasParts payloads identity code proposals
    × ¬ IsNamed half_open identity
IsAuthJudged half_open now payloads Code =
    (identity : IdValue) × (code : List ℕ) × (proposals : List ProposalValue)
    × HasParts payloads identity code proposals
    × IsNamed half_open identity × (code ≢ right_code half_open)
IsAuthJudged half_open now payloads NoProposal =
    (proposals : List ProposalValue) × IsAuthentic half_open payloads proposals
    × (first_fit half_open.content.size proposals ≡ None)
IsAuthJudged half_open now payloads Expired =
    (proposals : List ProposalValue) × IsAuthentic half_open payloads proposals
    × ((proposal : ProposalValue) × (first_fit half_open.content.size proposals ≡ Some proposal))
    × (half_open.content.expiry ≤ now)
IsAuthJudged half_open now payloads (Correct number) =
    (proposals : List ProposalValue) × IsAuthentic half_open payloads proposals
    × ((proposal : ProposalValue) × (first_fit half_open.content.size proposals ≡ Some proposal)
    × (proposal.number ≡ number))
    × (now < half_open.content.expiry)
