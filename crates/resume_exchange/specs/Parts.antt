-- The payloads that an IKE_AUTH of a resumption needs (RFC 7296, section 1.2). Of several of one
-- type the first counts.
use Rattle.std.specs.Prelude.{◌≡◌, ℕ, true, List, slice_get, Option, None, Some, is_some}
use Rattle.std.specs.List.{filter_map}
use Rattle.ike_values.specs.Values.{AuthValue, IdValue, PayloadValue, ProposalValue, SelectorValue}
use Rattle.ike_values.specs.Values.{idi, auth, sa, tsi, tsr}
use Rattle.resume_exchange.specs.declared.parts.TheConstants.{SHARED_KEY}

-- the first payload that this finds
abbrev pub first_of : {X : Type 0} → (PayloadValue → Option X) → List PayloadValue → Option X
first_of part payloads = slice_get (filter_map part payloads) 0

-- what a payload holds, where it is of the type
abbrev pub idi_data : PayloadValue → Option IdValue
idi_data (idi x) = Some x
idi_data _ = None

abbrev pub auth_data : PayloadValue → Option AuthValue
auth_data (auth x) = Some x
auth_data _ = None

abbrev pub sa_data : PayloadValue → Option (List ProposalValue)
sa_data (sa x) = Some x
sa_data _ = None

abbrev pub tsi_data : PayloadValue → Option (List SelectorValue)
tsi_data (tsi x) = Some x
tsi_data _ = None

abbrev pub tsr_data : PayloadValue → Option (List SelectorValue)
tsr_data (tsr x) = Some x
tsr_data _ = None

-- an identity, an AUTH code by the shared key, proposals, and the selectors of both ends
pub record HasParts
    (payloads : List PayloadValue) (identity : IdValue)
    (code : List ℕ) (proposals : List ProposalValue) : Type 0 where
  pub identity_is : first_of idi_data payloads ≡ Some identity
  pub code_is : first_of auth_data payloads ≡ Some (record { method = SHARED_KEY; content = code })
  pub proposals_are : first_of sa_data payloads ≡ Some proposals
  pub initiator : is_some (first_of tsi_data payloads) ≡ true
  pub responder : is_some (first_of tsr_data payloads) ≡ true
