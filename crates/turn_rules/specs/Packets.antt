-- What an end does with ESP packets (RFC 4303), by the keys, SPIs and windows that it holds.
use Rattle.std.specs.Prelude.{ℕ, ◌+◌, ◌≡◌, ◌≤◌, Some, None, List, [], ◌∷◌, Result}
use Rattle.aes_gcm.specs.NamedKey.{NamedKey}
use Rattle.esp_packets.specs.Packet.{IsEspAnswer, IsEspDatagram, payload_in, esp_plaintext}
use Rattle.events.specs.declared.seals.Seal.{Seal}
use Rattle.events.specs.declared.turn.Datagram.{Datagram}
use Rattle.events.specs.declared.turn.Medium.TheVariants.{Esp}
use Rattle.events.specs.declared.turn.Step.{Step}
use Rattle.events.specs.declared.verdict.EspVerdict.{EspVerdict}
use Rattle.events.specs.declared.verdict.EspVerdict.TheVariants as esp
use Rattle.events.specs.declared.verdict.Verdict.{Verdict}
use Rattle.events.specs.declared.verdict.Verdict.TheVariants as out
use Rattle.ha_base.specs.Octets.{WithRoom}
use Rattle.ha_base.specs.declared.counter_names.CounterName.{CounterName}
use Rattle.ha_base.specs.declared.esp_outcomes.EspDrop.{EspDrop}
use Rattle.ha_base.specs.declared.esp_outcomes.EspOpened.{EspOpened}
use Rattle.replay_set.specs.Window.{Window, with_noted}

-- what is sent with: the key, by the counter of its numbers, and the SPI at which the other end
-- receives
pub record Outbound : Type 0 where
  pub key : NamedKey
  pub spi : ℕ

-- what is received with: the counter of the numbers, the octets of the key, the SPI, and which
-- numbers were received
pub record Inbound : Type 0 where
  pub counter : CounterName
  pub key : List ℕ
  pub spi : ℕ
  pub window : Window

-- A payload was sent under a number: its packet was sealed, with the number as its IV, and given.
-- An IPv4 packet is what stands in it (RFC 4303, section 2.6: next header 4).
pub record SendsEsp (outbound : Outbound) (number : ℕ) (payload : List ℕ)
    (step : Step) : Type 0 where
  pub seal : Seal
  pub datagram : Datagram
  pub said : step.verdict ≡ out.Sent number
  pub served : step.served ≡ None
  pub seals : step.seals ≡ seal ∷ []
  pub gives : step.gives ≡ Some datagram
  pub named : seal.name ≡ outbound.key.name
  pub iv : seal.iv ≡ number
  pub plain : seal.plain.octets ≡ esp_plaintext payload 4
  pub sealed : IsEspDatagram outbound.key.octets outbound.spi number payload 4 seal.sealed.octets
  pub esp : datagram.medium ≡ Esp
  pub same : datagram.octets.octets ≡ seal.sealed.octets

-- The first check of a packet that fails, or where its payload lies. What its octets are then comes
-- last: the plaintext stands in the place of the ciphertext once it was opened.
abbrev pub OpensEsp : Inbound → List ℕ → Result EspOpened EspDrop → List ℕ → Type 0
OpensEsp inbound octets opened after =
    IsEspAnswer inbound.key inbound.spi inbound.window octets opened after

-- the packet was dropped, and its octets are as they were
pub record Drops (why : EspDrop) (octets : List ℕ) (answer : EspVerdict)
    (after : List ℕ) : Type 0 where
  pub said : answer ≡ esp.Dropped why
  pub same : after ≡ octets

-- the packet was received: its number is noted
abbrev pub noted : ℕ → Inbound → Inbound
noted number inbound = record inbound { window = with_noted inbound.window number }

-- an answer to a packet is so worded as a verdict; the payload is taken from the octets
abbrev pub IsVerdictOf : EspVerdict → List ℕ → Verdict → Type 0
IsVerdictOf (esp.Accepted counter packet) after verdict =
    (payload : WithRoom) × (payload.octets ≡ payload_in packet after)
    × (verdict ≡ out.Accepted counter packet.number packet.next_header payload)
IsVerdictOf (esp.Dropped why) after verdict = verdict ≡ out.DroppedEsp why
IsVerdictOf (esp.Refused why) after verdict = verdict ≡ out.Refused why

-- the payload of an accepted packet lies within so many octets
abbrev pub LiesWithin : EspVerdict → ℕ → Type 0
LiesWithin (esp.Accepted counter packet) size = packet.start + packet.length ≤ size
LiesWithin answer size = Unit {0}
