-- What a member takes of the peer's IKE_AUTH.
use Rattle.std.specs.Prelude.{◌≡◌, List, slice_get, Option, Some}
use Rattle.ha_base.specs.declared.key_material.KeySize.{KeySize}
use Rattle.ike_values.specs.Values.{PayloadValue, ProposalValue, SelectorValue}
use Rattle.resume_exchange.specs.Offers.{first_fit}
use Rattle.resume_exchange.specs.Parts.{first_of, sa_data, tsi_data, tsr_data}

-- the first proposal that fits keys of this size
abbrev pub TakesProposal : KeySize → List PayloadValue → ProposalValue → Type 0
TakesProposal size payloads proposal = (proposals : List ProposalValue)
    × (first_of sa_data payloads ≡ Some proposals) × (first_fit size proposals ≡ Some proposal)

-- the first selector of the first payload that this finds
abbrev pub IsNarrowed :
    (PayloadValue → Option (List SelectorValue)) → List PayloadValue → SelectorValue → Type 0
IsNarrowed part payloads selector = (selectors : List SelectorValue)
    × (first_of part payloads ≡ Some selectors) × (slice_get selectors 0 ≡ Some selector)

-- a proposal, and a selector of each end (RFC 7296, section 2.9)
pub record Chooses (size : KeySize) (payloads : List PayloadValue) (proposal : ProposalValue)
    (initiator responder : SelectorValue) : Type 0 where
  pub proposal_is : TakesProposal size payloads proposal
  pub initiator_is : IsNarrowed tsi_data payloads initiator
  pub responder_is : IsNarrowed tsr_data payloads responder
