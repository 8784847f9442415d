-- Octets as lower-case hexadecimal words.
use Rattle.std.specs.Prelude.{ℕ, ◌≤◌, ◌+◌, ◌-◌, ◌*◌, ◌/◌, ◌%◌, ◌==◌, ◌&&◌, ◌||◌, nat_lt, nat_le, Bool, List, [], ◌∷◌, length, slice_index, codes, Result, Ok, Err, if◌then◌else◌}
use Rattle.std.specs.Int.{w32, w64, to_be_bytes, from_be_bytes}
use Rattle.std.specs.List.{list_all}
use Rattle.std.specs.Str.{bytes_eq}
use Rattle.hex.specs.Hex.{IsBytes, encode_lower}
use Rattle.line_fields.specs.declared.fault.LineReason.{LineReason}
use Rattle.line_fields.specs.declared.fault.LineReason.TheVariants.{Hex, Size}
use Rattle.line_fields.specs.Numbers.{is_digit}

-- a digit of lower-case hexadecimal
abbrev pub is_lower : ℕ → Bool
is_lower c = is_digit c || (nat_le 97 c && nat_le c 102)

-- whole octets in lower-case hexadecimal, at least one
abbrev pub is_hex : List ℕ → Bool
is_hex w = list_all is_lower w && nat_lt 0 (length w) && (length w % 2 == 0)

abbrev pub digit_of : ℕ → ℕ
digit_of c = if nat_le 97 c then c - 87 else c - 48

-- the octets that pairs of digits stand for
unfoldable pub decoded : List ℕ → List ℕ
decoded [] = []
decoded (high ∷ []) = []
decoded (high ∷ low ∷ rest) = (digit_of high * 16 + digit_of low) ∷ decoded rest

-- the word for no octets
abbrev pub dash : List ℕ
dash = codes "-"

-- the word of some octets
abbrev pub octets_text : List ℕ → List ℕ
octets_text [] = dash
octets_text (b ∷ bs) = encode_lower (b ∷ bs)

-- a word for octets
abbrev pub spells_octets : List ℕ → Bool
spells_octets w = bytes_eq w dash || is_hex w

-- how many octets a word has, from least to most
abbrev pub size_of : ℕ → ℕ → List ℕ → Result ℕ LineReason
size_of least most w =
    if spells_octets w then (if nat_le least (length w / 2) && nat_le (length w / 2) most
    then Ok (length w / 2) else Err Size)
    else Err Hex

abbrev pub octets_in : List ℕ → Result ℕ LineReason → Result (List ℕ) LineReason
octets_in w (Ok size) = Ok (decoded w)
octets_in w (Err reason) = Err reason

-- octets of a number from least to most
abbrev pub sized : ℕ → ℕ → List ℕ → Result (List ℕ) LineReason
sized least most w = octets_in w (size_of least most w)

abbrev pub octet_in : Result (List ℕ) LineReason → Result ℕ LineReason
octet_in (Ok octets) = Ok (slice_index octets 0)
octet_in (Err reason) = Err reason

-- one octet
abbrev pub octet_of : List ℕ → Result ℕ LineReason
octet_of w = octet_in (sized 1 1 w)

abbrev pub spi_text : ℕ → List ℕ
spi_text n = encode_lower (to_be_bytes w64 n)

abbrev pub esp_spi_text : ℕ → List ℕ
esp_spi_text n = encode_lower (to_be_bytes w32 n)

-- an SPI of the IKE header (RFC 7296 section 3.1), in 16 digits
abbrev pub spi_in_word : List ℕ → Result ℕ LineReason
spi_in_word w = if is_hex w then (if length w / 2 == 8 then Ok (from_be_bytes w64 (decoded w))
    else Err Size) else Err Hex

-- an SPI of an ESP packet (RFC 4303 section 2.1), in 8 digits
abbrev pub esp_spi_of : List ℕ → Result ℕ LineReason
esp_spi_of w = if is_hex w then (if length w / 2 == 4 then Ok (from_be_bytes w32 (decoded w))
    else Err Size) else Err Hex

-- octets of a number from least to most
pub record IsOctetField (least most : ℕ) (octets : List ℕ) : Type 0 where
  pub least_size : least ≤ length octets
  pub most_size : length octets ≤ most
  pub bytes : IsBytes octets
