-- A packet is accepted at first delivery, said by the packets that were accepted before.
use Rattle.std.specs.Prelude.{ℕ, ◌≡◌, ◌≢◌, Some, List}
use Rattle.std.specs.List.{AllByRecursion, filter_map}
use Rattle.esp_packets.specs.Laws.{WindowCovers}
use Rattle.esp_packets.specs.Packet.{IsEspDatagram, spi_of}
use Rattle.events.specs.declared.turn.Turn.{Turn}
use Rattle.keeper_book.specs.declared.counters.Counter.TheVariants as counter
use Rattle.turn_laws.specs.Places.{Ours, Place, Theirs, place_of}
use Rattle.turn_rules.specs.Draws.{counter_name}
use Rattle.turn_rules.specs.Ends.{Member, Peer, own}
use Rattle.turn_rules.specs.Genuine.{Came, IsAcceptedAs, IsAcknowledged}
use Rattle.turn_rules.specs.Held.{Held, held_by, window_by}
use Rattle.turn_rules.specs.MemberPackets.{IsReceiver}
use Rattle.turn_rules.specs.Safe.{Packet, accepted_in}
use Rattle.turn_rules.specs.Slots.{Slot, first_slot, peer_counter, receives_at, slots_by}

-- a packet of another counter, or of another number
abbrev pub IsOtherPacket : Place → ℕ → Packet → Type 0
IsOtherPacket p n packet = place_of packet.name ≡ p → packet.number ≢ n

-- none of the packets that were accepted is this one
abbrev pub IsUnaccepted : Place → ℕ → List Turn → Type 0
IsUnaccepted p n past = AllByRecursion (IsOtherPacket p n) (filter_map accepted_in past)

-- A packet under the receive key and the SPI of what a member holds that is up, whoever sealed it,
-- whose number the window covers and no earlier turn accepted, is accepted where its number is
-- acknowledged to the member.
abbrev pub MemberAcceptsFirst : List Turn → Turn → Type 0
MemberAcceptsFirst past turn =
    (member spir number : ℕ) (held : Held) (payload octets : List ℕ)
    → Came past turn (Member member) octets
    → IsReceiver (held_by (window_by past) (own (Member member) past)) (spi_of octets) spir held
    → IsEspDatagram held.sa.child.to_cluster held.sa.spi_in number payload 4 octets
    → WindowCovers held.window number
    → IsUnaccepted (Ours spir counter.EspIn) number past → IsAcknowledged held number turn.calls
    → IsAcceptedAs (counter_name held.sa counter.EspIn) number payload turn.step.verdict

-- and so by the peer, in an association that is live there: it needs no acknowledgement
abbrev pub PeerAcceptsFirst : List Turn → Turn → Type 0
PeerAcceptsFirst past turn =
    (number : ℕ) (slot : Slot) (payload octets : List ℕ) → Came past turn Peer octets
    → first_slot (receives_at (spi_of octets)) (slots_by (window_by past) (own Peer past))
    ≡ Some slot
    → IsEspDatagram slot.sa.child.to_peer slot.sa.spi_out number payload 4 octets
    → WindowCovers slot.window number
    → IsUnaccepted (Theirs (peer_counter slot.sa counter.EspIn)) number past
    → IsAcceptedAs (peer_counter slot.sa counter.EspIn) number payload turn.step.verdict
