-- Packets that the other end sealed, and what becomes of them.
use Rattle.std.specs.Prelude.{ℕ, ◌≡◌, ◌<◌, ◌≤◌, ◌⊎◌, false, Some, List, [], ◌∷◌, length, Ok}
use Rattle.esp_packets.specs.Laws.{WindowCovers}
use Rattle.esp_packets.specs.Packet.{IsEspDatagram, payload_in, spi_of}
use Rattle.events.specs.declared.turn.Medium.TheVariants as medium
use Rattle.events.specs.declared.turn.Turn.{Turn}
use Rattle.events.specs.declared.verdict.EspVerdict.{EspVerdict}
use Rattle.events.specs.declared.verdict.EspVerdict.TheVariants as esp
use Rattle.events.specs.declared.verdict.Verdict.{Verdict}
use Rattle.events.specs.declared.verdict.Verdict.TheVariants as out
use Rattle.ha_base.specs.Octets.{WithRoom}
use Rattle.ha_base.specs.declared.limits.TheConstants.{MAX_DATAGRAMS}
use Rattle.ha_base.specs.declared.counter_names.CounterName.{CounterName}
use Rattle.ha_base.specs.declared.esp_outcomes.EspOpened.{EspOpened}
use Rattle.keeper_book.specs.Told.{seen}
use Rattle.keeper_book.specs.declared.calls.Call.{Call}
use Rattle.keeper_book.specs.declared.counters.Counter.TheVariants as counter
use Rattle.replay_set.specs.Window.{judged}
use Rattle.replay_set.specs.declared.judgement.Judgement.TheVariants as judgement
use Rattle.turn_rules.specs.Datagrams.{arrives, datagrams_of, delivery_of}
use Rattle.turn_rules.specs.Draws.{counter_name}
use Rattle.turn_rules.specs.Ends.{Member, Peer, Performer, own, receiver_of}
use Rattle.turn_rules.specs.Held.{Held, covered, held_by, window_by}
use Rattle.turn_rules.specs.MemberPackets.{IsReceiver, inbound_of}
use Rattle.turn_rules.specs.Packets.{Inbound}
use Rattle.turn_rules.specs.States.{has_ended, joins}
use Rattle.turn_rules.specs.Slots.{Slot, first_slot, peer_counter, receives_at, slot_inbound, slots_by}

-- The octets name the SPI at which is received, and are the packet of this payload under its key;
-- the number is covered by the window and was not accepted before.
pub record IsGenuine (inbound : Inbound) (number : ℕ) (payload octets : List ℕ) : Type 0 where
  pub named : spi_of octets ≡ inbound.spi
  pub sealed : IsEspDatagram inbound.key inbound.spi number payload 4 octets
  pub covered : WindowCovers inbound.window number
  pub first : judged inbound.window number ≡ judgement.Fresh

-- the first of these calls is a cover of the association's received numbers that was acknowledged
-- and goes beyond the number
abbrev pub IsCoveredNow : ℕ → ℕ → List Call → Type 0
IsCoveredNow spir number [] = ⊥
IsCoveredNow spir number (call ∷ calls) = (upto : ℕ)
    × (covered spir counter.EspIn call.asked (seen call) ≡ Some upto) × (number < upto)

-- the number lies below what was acknowledged, or the cover of this turn was
abbrev pub IsAcknowledged : Held → ℕ → List Call → Type 0
IsAcknowledged held number calls = (number < held.highs.esp_in)
    ⊎ IsCoveredNow held.sa.spir number calls

-- the payload was accepted under its number, as an IPv4 packet (RFC 4303, section 2.6)
pub record IsAcceptedAs (name : CounterName) (number : ℕ) (payload : List ℕ)
    (verdict : Verdict) : Type 0 where
  pub given : WithRoom
  pub said : verdict ≡ out.Accepted name number 4 given
  pub same : given.octets ≡ payload

-- the same of the answer to its octets, which are then these
pub record IsTakenAs (name : CounterName) (number : ℕ) (payload : List ℕ) (answer : EspVerdict)
    (after : List ℕ) : Type 0 where
  pub packet : EspOpened
  pub said : answer ≡ esp.Accepted name packet
  pub number_is : packet.number ≡ number
  pub next_header_is : packet.next_header ≡ 4
  pub payload_is : payload_in packet after ≡ payload

-- an end is up: the peer always, and a member that joined and did not end
abbrev pub IsUp : List Turn → Performer → Type 0
IsUp past Peer = Unit {0}
IsUp past (Member member) = (1 ≤ member) × (member ≤ joins past) × (has_ended member past ≡ false)

-- The event of the turn delivers these octets, unchanged or not, to an end that is up, while the
-- run has room for one more datagram.
pub record Came (past : List Turn) (turn : Turn) (to : Performer) (octets : List ℕ) : Type 0 where
  pub addressed : receiver_of (delivery_of turn.event) ≡ Some to
  pub up : IsUp past to
  pub room : length (datagrams_of past) < MAX_DATAGRAMS
  pub arrived : arrives (datagrams_of past) turn.event
      ≡ Ok (record { medium = medium.Esp; octets = octets })

-- a covered genuine packet that comes to a member is accepted at first delivery, where its number
-- is acknowledged
abbrev pub MemberAccepts : List Turn → Turn → Type 0
MemberAccepts past turn =
    (member spir number : ℕ) (held : Held) (payload octets : List ℕ)
    → Came past turn (Member member) octets
    → IsReceiver (held_by (window_by past) (own (Member member) past)) (spi_of octets) spir held
    → IsGenuine (inbound_of held) number payload octets → IsAcknowledged held number turn.calls
    → IsAcceptedAs (counter_name held.sa counter.EspIn) number payload turn.step.verdict

-- and one that comes to the peer
abbrev pub PeerAccepts : List Turn → Turn → Type 0
PeerAccepts past turn =
    (number : ℕ) (slot : Slot) (payload octets : List ℕ) → Came past turn Peer octets
    → first_slot (receives_at (spi_of octets)) (slots_by (window_by past) (own Peer past))
    ≡ Some slot
    → IsGenuine (slot_inbound slot) number payload octets
    → IsAcceptedAs (peer_counter slot.sa counter.EspIn) number payload turn.step.verdict

-- each turn does so
abbrev pub AreAccepted : List Turn → Type 0
AreAccepted [] = Unit {0}
AreAccepted (turn ∷ past) = MemberAccepts past turn × PeerAccepts past turn × AreAccepted past
