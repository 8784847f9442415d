-- ESP packets under AES-GCM with extended sequence numbers (RFC 4303, RFC 4106).
use Rattle.std.specs.Prelude.{◌≡◌, ◌≢◌, ℕ, ◌+◌, ◌-◌, ◌%◌, ◌<◌, ◌≤◌, ◌==◌, List, [], ◌∷◌, ◌++◌}
use Rattle.std.specs.Prelude.{length, take, drop, slice_index, Bool, Result, Ok, Err}
use Rattle.std.specs.Int.{w32, w64, to_be_bytes, from_be_bytes}
use Rattle.std.specs.List.{position_or_len, range_with_len}
use Rattle.ha_base.specs.declared.esp_outcomes.EspOpened.{EspOpened}
use Rattle.ha_base.specs.declared.esp_outcomes.EspDrop.{EspDrop}
use Rattle.ha_base.specs.declared.esp_outcomes.EspDrop.TheVariants as drops
use Rattle.aes_gcm.specs.Gcm.{sealed}
use Rattle.replay_set.specs.Window.{Window, IsMeant, judged}
use Rattle.ha_base.specs.declared.limits.TheConstants.{SEQUENCE_END}
use Rattle.replay_set.specs.declared.judgement.Judgement.TheVariants.{Stale, Seen, Fresh}
use Rattle.esp_packets.specs.declared.packet.TheConstants.{CHECK_VALUE, HEADER, SHORTEST_PACKET}

-- the associated data: the SPI and the whole number (RFC 4106, section 5)
abbrev pub esp_associated_data : ℕ → ℕ → List ℕ
esp_associated_data spi number = to_be_bytes w32 spi ++ to_be_bytes w64 number

-- what stands before the ciphertext: the SPI, the low half of the number and the IV (RFC 4303,
-- section 2; RFC 4106, section 3)
abbrev pub header : ℕ → ℕ → ℕ → List ℕ
header spi number iv = to_be_bytes w32 spi ++ drop 4 (to_be_bytes w64 number) ++ to_be_bytes w64 iv

-- the octets are the packet of this plaintext, under the octets of a key and its salt
pub record IsPacket (key : List ℕ) (spi number iv : ℕ) (plain octets : List ℕ) : Type 0 where
  pub sealed :
      let text = sealed key iv (esp_associated_data spi number) plain in
      octets ≡ header spi number iv ++ text.ciphertext ++ text.tag

-- payload, so many octets of padding, pad length and next header are a multiple of four
abbrev pub is_padded : ℕ → ℕ → Bool
is_padded payload_length pad = (payload_length + pad + 2) % 4 == 0

-- how many octets of padding follow so many octets of payload: the fewest (RFC 4303, section 2.4)
abbrev pub pad_length : ℕ → ℕ
pad_length payload_length = position_or_len (is_padded payload_length) (range_with_len 0 4)

-- what is sealed for a payload: the padding octets count up from 1 (RFC 4303, section 2.4)
abbrev pub esp_plaintext : List ℕ → ℕ → List ℕ
esp_plaintext payload next_header = let pad = pad_length (length payload) in
    payload ++ range_with_len 1 pad ++ pad ∷ next_header ∷ []

-- the octets are the packet that is sent with this payload. Its IV is its number
abbrev pub IsEspDatagram : List ℕ → ℕ → ℕ → List ℕ → ℕ → List ℕ → Type 0
IsEspDatagram key spi number payload next_header octets =
    IsPacket key spi number number (esp_plaintext payload next_header) octets

-- the fields of a packet
abbrev pub spi_of : List ℕ → ℕ
spi_of octets = from_be_bytes w32 (take 4 octets)

abbrev pub low_half_of : List ℕ → ℕ
low_half_of octets = from_be_bytes w32 (take 4 (drop 4 octets))

abbrev pub iv_of : List ℕ → ℕ
iv_of octets = from_be_bytes w64 (take 8 (drop 8 octets))

-- the last two octets of a plaintext
abbrev pub esp_pad_length_in : List ℕ → ℕ
esp_pad_length_in plain = slice_index plain (length plain - 2)

abbrev pub next_header_in : List ℕ → ℕ
next_header_in plain = slice_index plain (length plain - 1)

-- a packet of a known Child SA, long enough for its header, two octets of plaintext and the
-- integrity check value
pub record IsForUs (spi : ℕ) (octets : List ℕ) : Type 0 where
  pub long : SHORTEST_PACKET ≤ length octets
  pub named : spi_of octets ≡ spi

-- the number that a packet means
pub record Means (window : Window) (octets : List ℕ) (number : ℕ) : Type 0 where
  pub meant : IsMeant window (low_half_of octets) number
  pub below_end : number < SEQUENCE_END

-- a packet for us whose number has not been received
pub record IsNewPacket (spi : ℕ) (window : Window) (octets : List ℕ) (number : ℕ) : Type 0 where
  pub for_us : IsForUs spi octets
  pub means : Means window octets number
  pub fresh : judged window number ≡ Fresh

-- the one plaintext whose packet the octets are
pub record OpensPacket (key : List ℕ) (spi number : ℕ) (octets plain : List ℕ) : Type 0 where
  pub is : IsPacket key spi number (iv_of octets) plain octets
  pub only : (other : List ℕ) → IsPacket key spi number (iv_of octets) other octets → other ≡ plain

-- where the payload of a plaintext lies, the pad length fitting it
pub record LiesIn (plain : List ℕ) (packet : EspOpened) : Type 0 where
  pub fits : esp_pad_length_in plain + 2 ≤ length plain
  pub next_header : packet.next_header ≡ next_header_in plain
  pub start : packet.start ≡ HEADER
  pub length_is : packet.length ≡ length plain - 2 - esp_pad_length_in plain

-- the octets with the plaintext in the place of the ciphertext
abbrev pub opened : List ℕ → List ℕ → List ℕ
opened octets plain = take HEADER octets ++ plain ++ drop (length octets - CHECK_VALUE) octets

-- what is answered to a packet, and what its octets are then: each answer is the first check that
-- fails (RFC 4303, section 3.4)
abbrev pub IsEspAnswer :
    List ℕ → ℕ → Window → List ℕ → Result EspOpened EspDrop → List ℕ → Type 0
IsEspAnswer key spi window octets (Err drops.Short) after =
    (length octets < SHORTEST_PACKET) × (after ≡ octets)
IsEspAnswer key spi window octets (Err drops.WrongSpi) after =
    (SHORTEST_PACKET ≤ length octets) × (spi_of octets ≢ spi) × (after ≡ octets)
IsEspAnswer key spi window octets (Err drops.Stale) after =
    IsForUs spi octets
    × ((number : ℕ) → Means window octets number → judged window number ≡ Stale)
    × (after ≡ octets)
IsEspAnswer key spi window octets (Err drops.Seen) after =
    IsForUs spi octets
    × ((number : ℕ) × Means window octets number × (judged window number ≡ Seen))
    × (after ≡ octets)
IsEspAnswer key spi window octets (Err drops.NotOpened) after =
    ((number : ℕ) × IsNewPacket spi window octets number
    × ((plain : List ℕ) → ¬ IsPacket key spi number (iv_of octets) plain octets))
    × (after ≡ octets)
IsEspAnswer key spi window octets (Err drops.Padding) after =
    (number : ℕ) × (plain : List ℕ)
    × IsNewPacket spi window octets number × OpensPacket key spi number octets plain
    × (length plain < esp_pad_length_in plain + 2) × (after ≡ opened octets plain)
IsEspAnswer key spi window octets (Ok packet) after =
    (plain : List ℕ)
    × IsNewPacket spi window octets packet.number × OpensPacket key spi packet.number octets plain
    × LiesIn plain packet × (after ≡ opened octets plain)

-- the payload that an accepted packet has
abbrev pub payload_in : EspOpened → List ℕ → List ℕ
payload_in packet octets = take packet.length (drop packet.start octets)
