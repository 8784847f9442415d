-- Which proposal of a Child SA a member takes (RFC 7296, section 3.3).
use Rattle.std.specs.Prelude.{ℕ, ◌&&◌, ◌||◌, ◌==◌, Bool, false, not, nat_le, if◌then◌else◌}
use Rattle.std.specs.Prelude.{List, length, filter, slice_get, Option, None, Some}
use Rattle.std.specs.Int.{w32, from_be_bytes}
use Rattle.std.specs.List.{filter_map, list_any}
use Rattle.ha_base.specs.declared.key_material.KeySize.{KeySize}
use Rattle.ha_base.specs.declared.key_material.KeySize.TheVariants.{Bits128, Bits256}
use Rattle.ike_values.specs.Values.{AttributeValue, fixed, free, TransformValue, ProposalValue}
use Rattle.resume_exchange.specs.declared.offers.TheConstants.{ESP, ENCR, INTEG, DH, ESN}
use Rattle.resume_exchange.specs.declared.offers.TheConstants.{AES_GCM_16, EXTENDED, NONE}
use Rattle.resume_exchange.specs.declared.offers.TheConstants.{KEY_LENGTH, LEAST_CHILD_SPI}

-- the bits that an attribute says that a key has: only its short form does (section 3.3.5)
abbrev pub key_length_of : AttributeValue → Option ℕ
key_length_of (fixed kind value) = if kind == KEY_LENGTH then Some value else None
key_length_of (free kind value) = None

-- of several such attributes the first counts
abbrev pub key_length : List AttributeValue → Option ℕ
key_length attributes = slice_get (filter_map key_length_of attributes) 0

-- the bits of an AES key
abbrev pub key_bits : KeySize → ℕ
key_bits Bits128 = 128
key_bits Bits256 = 256

-- an option that holds this number
abbrev pub holds : Option ℕ → ℕ → Bool
holds None n = false
holds (Some m) n = m == n

-- a transform of this type, and of this type and ID (section 3.3.2)
abbrev pub has_type : ℕ → TransformValue → Bool
has_type kind transform = transform.kind == kind

abbrev pub is_transform : ℕ → ℕ → TransformValue → Bool
is_transform kind id transform = transform.kind == kind && transform.id == id

-- AES-GCM with a key of this size (RFC 4106, section 8.4)
abbrev pub is_cipher : KeySize → TransformValue → Bool
is_cipher size transform =
    is_transform ENCR AES_GCM_16 transform
    && holds (key_length transform.attributes) (key_bits size)

-- no transform of this type is named, or it is offered to do without
abbrev pub leaves_out : ℕ → List TransformValue → Bool
leaves_out kind transforms =
    not (list_any (has_type kind) transforms) || list_any (is_transform kind NONE) transforms

-- four octets, and not reserved (RFC 4303, section 2.1)
abbrev pub is_child_spi : List ℕ → Bool
is_child_spi spi = length spi == 4 && nat_le LEAST_CHILD_SPI (from_be_bytes w32 spi)

-- the proposal is for ESP under AES-GCM with a key of this size and extended numbers
abbrev pub fits : KeySize → ProposalValue → Bool
fits size proposal =
    proposal.protocol == ESP && is_child_spi proposal.spi
    && list_any (is_cipher size) proposal.transforms
    && list_any (is_transform ESN EXTENDED) proposal.transforms
    && leaves_out INTEG proposal.transforms && leaves_out DH proposal.transforms

-- of several that fit the first is taken
abbrev pub first_fit : KeySize → List ProposalValue → Option ProposalValue
first_fit size proposals = slice_get (filter (fits size) proposals) 0
