-- How headers and whole messages are spelled (RFC 7296, section 3.1). The minor version and all
-- flags but Initiator and Response are free.
use Rattle.std.specs.Prelude.{◌≡◌, ℕ, ◌+◌, ◌/◌, ◌<◌, ◌^◌, ◌==◌, not, Bool, false, bit_and, List, [], ◌∷◌, ◌++◌, length}
use Rattle.std.specs.Int.{w32, w64, to_be_bytes}
use Rattle.ike_values.specs.declared.header.Header.{Header}
use Rattle.ike_values.specs.declared.header.Message.{Message}
use Rattle.ike_values.specs.Chains.{Spells}

-- whether a flag is set: 8 is Initiator, 32 is Response
abbrev pub has_flag : ℕ → ℕ → Bool
has_flag flags flag = not (bit_and flags flag == 0)

-- the ranges of a header's fields
pub record FitsHeader (h : Header) : Type 0 where
  pub spii : h.spii < 2 ^ 64
  pub spir : h.spir < 2 ^ 64
  pub id : h.id < 2 ^ 32

-- two SPIs, next payload, version, exchange, flags, Message ID, and the length of the whole message
abbrev pub header_spelling : Header → ℕ → ℕ → ℕ → ℕ → List ℕ
header_spelling h first version flags len =
    to_be_bytes w64 h.spii ++ to_be_bytes w64 h.spir
    ++ (first ∷ version ∷ h.exchange ∷ flags ∷ [])
    ++ to_be_bytes w32 h.id ++ to_be_bytes w32 len

-- the type of the first payload, what is free in a header, and what stands behind it
pub record HeaderParts : Type 0 where
  pub first : ℕ
  pub version : ℕ
  pub flags : ℕ
  pub rest : List ℕ

pub record SpellsHeader (h : Header) (bytes : List ℕ) (p : HeaderParts) : Type 0 where
  pub bytes_are : bytes ≡ header_spelling h p.first p.version p.flags (28 + length p.rest) ++ p.rest
  pub fits : FitsHeader h
  pub length_fits : 28 + length p.rest < 2 ^ 32
  pub version_is : p.version / 16 ≡ 2
  pub initiator_is : h.initiator ≡ has_flag p.flags 8
  pub response_is : h.response ≡ has_flag p.flags 32

abbrev pub IsHeader : Header → List ℕ → Type 0
IsHeader h bytes = (p : HeaderParts) × SpellsHeader h bytes p

-- the octets spell the message
abbrev pub IsMessage : Message → List ℕ → Type 0
IsMessage m bytes = (p : HeaderParts) × SpellsHeader m.header bytes p
    × Spells m.payloads p.first false p.rest
