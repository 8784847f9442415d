-- IKE messages whose only payload is SK, under AES-GCM (RFC 7296, section 3.14; RFC 5282).
use Rattle.std.specs.Prelude.{◌≡◌, ℕ, ◌-◌, ◌<◌, ◌≤◌, ◌⊎◌, true, List, [], ◌∷◌, ◌++◌, length, take, slice_index, Result, Ok, Err}
use Rattle.aes_gcm.specs.Gcm.{sealed}
use Rattle.ike_values.specs.declared.header.Header.{Header}
use Rattle.ike_values.specs.declared.header.Message.{Message}
use Rattle.ike_values.specs.Values.{SkValue, PayloadValue, sk}
use Rattle.ike_values.specs.Writing.{first_type_of, chain_written}
use Rattle.ike_values.specs.Chains.{Spells}
use Rattle.ike_values.specs.Headers.{IsMessage}
use Rattle.ike_encoding.specs.Messages.{message_written}
use Rattle.ike_values.specs.declared.fault.Bad.{Bad}
use Rattle.ike_values.specs.declared.fault.Reason.TheVariants.{Length}
use Rattle.ike_grammar.specs.Chain.{Refused}

-- the message whose only payload is SK
abbrev pub only_sk : Header → SkValue → Message
only_sk header body = record { header = header; payloads = sk body ∷ [] }

-- the associated data: from the first octet of the header through the SK payload header (RFC 5282,
-- section 5.1)
abbrev pub associated_data : List ℕ → List ℕ
associated_data octets = take 32 octets

-- the octets are a message whose only payload is SK, in which this plaintext is sealed under the
-- octets of a key and its salt
pub record IsSealed (key : List ℕ) (header : Header) (body : SkValue) (plain octets : List ℕ) :
    Type 0 where
  pub message : IsMessage (only_sk header body) octets
  pub text :
      sealed key body.iv (associated_data octets) plain
      ≡ record { ciphertext = body.ciphertext; tag = body.icv }

-- what is sealed for inner payloads: their spelling and a pad length 0, without padding
abbrev pub plain_of : List PayloadValue → List ℕ
plain_of payloads = chain_written payloads ++ 0 ∷ []

-- the octets are the message that is sent with these inner payloads: what is free in a header is 0
pub record IsDatagram
    (key : List ℕ) (iv : ℕ) (header : Header) (payloads : List PayloadValue) (octets : List ℕ) :
    Type 0 where
  pub body : SkValue
  pub written : octets ≡ message_written (only_sk header body)
  pub first_is : body.first ≡ first_type_of payloads
  pub iv_is : body.iv ≡ iv
  pub is : IsSealed key header body (plain_of payloads) octets
  pub inner : Spells payloads (first_type_of payloads) true (chain_written payloads)

-- the one plaintext that is sealed in the octets
pub record OpensMessage (key : List ℕ) (header : Header) (body : SkValue) (plain octets : List ℕ) :
    Type 0 where
  pub is : IsSealed key header body plain octets
  pub only :
      (others : Header) (other_body : SkValue) (other : List ℕ) →
      IsSealed key others other_body other octets → other ≡ plain

-- the last octet of a plaintext
abbrev pub pad_length_in : List ℕ → ℕ
pad_length_in plain = slice_index plain (length plain - 1)

-- what stands before the padding
abbrev pub chain_in : List ℕ → List ℕ
chain_in plain = take (length plain - 1 - pad_length_in plain) plain

-- the padding does not fit the plaintext, which is refused at the pad length
pub record IsBadPadding (plain : List ℕ) (bad : Bad) : Type 0 where
  pub long : length plain ≤ pad_length_in plain
  pub place : bad.place ≡ length plain - 1
  pub reason : bad.reason ≡ Length

-- the inner payloads of a plaintext, the first of which has this type, or where and why it is
-- refused. Places count from the first octet of the plaintext
abbrev pub IsInner : ℕ → List ℕ → Result (List PayloadValue) Bad → Type 0
IsInner first plain (Ok payloads) =
    (pad_length_in plain < length plain) × Spells payloads first true (chain_in plain)
IsInner first plain (Err bad) =
    IsBadPadding plain bad
    ⊎ ((pad_length_in plain < length plain)
    × Refused first true (chain_in plain) bad.place bad.reason)
