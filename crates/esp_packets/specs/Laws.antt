-- What holds of sealed packets and of the answers to them.
use Rattle.std.specs.Prelude.{◌≡◌, ℕ, ◌+◌, ◌%◌, ◌^◌, ◌<◌, ◌≤◌, List, Result, Ok}
use Rattle.ha_base.specs.KeySizes.{HasKeySize}
use Rattle.ha_base.specs.declared.esp_outcomes.EspOpened.{EspOpened}
use Rattle.ha_base.specs.declared.esp_outcomes.EspDrop.{EspDrop}
use Rattle.replay_set.specs.Window.{Window, IsMeant, judged}
use Rattle.ha_base.specs.declared.limits.TheConstants.{SEQUENCE_END}
use Rattle.replay_set.specs.declared.judgement.Judgement.TheVariants.{Fresh}
use Rattle.esp_packets.specs.Packet.{IsEspDatagram, IsEspAnswer, pad_length, payload_in}

-- the padding makes a multiple of four, and no shorter one does
abbrev pub PaddingIsShortest : Type 0
PaddingIsShortest =
    (payload_length : ℕ) → ((payload_length + pad_length payload_length + 2) % 4 ≡ 0)
    × ((pad : ℕ) → (payload_length + pad + 2) % 4 ≡ 0 → pad_length payload_length ≤ pad)

-- a number that a receiver takes: from the base on, in the window or above it, and meant by its
-- low half
pub record WindowCovers (window : Window) (number : ℕ) : Type 0 where
  pub from_base : window.base ≤ number
  pub meant : IsMeant window (number % 2 ^ 32) number
  pub below_end : number < SEQUENCE_END

-- the answer accepts this payload with this number
pub record Accepts (number : ℕ) (payload : List ℕ) (next_header : ℕ)
    (answer : Result EspOpened EspDrop) (after : List ℕ) : Type 0 where
  pub packet : EspOpened
  pub accepted : answer ≡ Ok packet
  pub number_is : packet.number ≡ number
  pub next_header_is : packet.next_header ≡ next_header
  pub payload_is : payload_in packet after ≡ payload

-- what was sealed is accepted with its number and payload, where the number is covered and fresh
abbrev pub SealedPacketsOpen : Type 0
SealedPacketsOpen =
    (key : List ℕ) (spi number : ℕ) (payload : List ℕ) (next_header : ℕ) (octets : List ℕ)
    (window : Window) (answer : Result EspOpened EspDrop) (after : List ℕ) →
    HasKeySize key → spi < 2 ^ 32 →
    IsEspDatagram key spi number payload next_header octets →
    WindowCovers window number → judged window number ≡ Fresh →
    IsEspAnswer key spi window octets answer after →
    Accepts number payload next_header answer after
