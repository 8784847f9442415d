-- What is answered to a message that may be a sealed one.
use Rattle.std.specs.Prelude.{◌≡◌, ℕ, List, Result, Ok, Err}
use Rattle.aes_gcm.specs.Gcm.{sealed}
use Rattle.ike_values.specs.declared.header.Header.{Header}
use Rattle.ike_values.specs.declared.header.Message.{Message}
use Rattle.ike_values.specs.Values.{SkValue}
use Rattle.ike_values.specs.Headers.{IsMessage}
use Rattle.ike_grammar.specs.Messages.{MessageRefused}
use Rattle.sk_payload.specs.declared.open.Opened.{Opened}
use Rattle.sk_payload.specs.declared.not_read.NotRead.{NotRead}
use Rattle.sk_payload.specs.declared.not_read.NotRead.TheVariants.{Bad, NotOpened, Memory}
use Rattle.sk_payload.specs.declared.not_read.OpenFault.{OpenFault}
use Rattle.sk_payload.specs.declared.not_read.OpenFault.TheVariants as fault
use Rattle.sk_payload.specs.Message.{associated_data, IsSealed, OpensMessage, IsInner}

-- no plaintext is sealed in the message that the octets spell
pub record IsNotOpened (key octets : List ℕ) : Type 0 where
  pub message : Message
  pub is : IsMessage message octets
  pub none :
      (header : Header) (body : SkValue) (plain : List ℕ) →
      ¬ IsSealed key header body plain octets

-- the answer to a message that the octets spell, under the octets of a key and its salt
abbrev pub IsOpening : List ℕ → List ℕ → Result Opened OpenFault → Type 0
IsOpening key octets (Ok opened) =
    (body : SkValue) × (plain : List ℕ)
    × OpensMessage key opened.header body plain octets × IsInner body.first plain opened.inner
IsOpening key octets (Err fault.NotOpened) = IsNotOpened key octets
IsOpening key octets (Err fault.Memory) = Unit {0}

-- the answer to octets
abbrev pub IsAnswer : List ℕ → List ℕ → Result Opened NotRead → Type 0
IsAnswer key octets (Ok opened) = IsOpening key octets (Ok opened)
IsAnswer key octets (Err (Bad bad)) = MessageRefused octets bad.place bad.reason
IsAnswer key octets (Err NotOpened) = IsNotOpened key octets
IsAnswer key octets (Err Memory) = Unit {0}

-- ---- what the parts of the reader answer

abbrev pub IsMessageFault : List ℕ → NotRead → Type 0
IsMessageFault octets (Bad bad) = MessageRefused octets bad.place bad.reason
IsMessageFault octets NotOpened = ⊥
IsMessageFault octets Memory = Unit {0}

-- the plaintext is sealed in the body of SK in a message of these octets
abbrev pub IsText : List ℕ → SkValue → List ℕ → List ℕ → Type 0
IsText key body octets plain =
    sealed key body.iv (associated_data octets) plain
    ≡ record { ciphertext = body.ciphertext; tag = body.icv }

-- and no other is
pub record IsTextOpened (key : List ℕ) (body : SkValue) (octets plain : List ℕ) : Type 0 where
  pub is : IsText key body octets plain
  pub only : (other : List ℕ) → IsText key body octets other → other ≡ plain

abbrev pub IsSealedTextFault : List ℕ → SkValue → List ℕ → OpenFault → Type 0
IsSealedTextFault key body octets fault.NotOpened =
    (plain : List ℕ) → ¬ IsText key body octets plain
IsSealedTextFault key body octets fault.Memory = Unit {0}
