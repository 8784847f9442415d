-- Packets that the cluster sealed for what the peer holds.
use Rattle.std.specs.Prelude.{ℕ, ◌≡◌, List, Some}
use Rattle.esp_packets.specs.Packet.{spi_of}
use Rattle.events.specs.declared.verdict.EspVerdict.{EspVerdict}
use Rattle.keeper_book.specs.declared.counters.Counter.TheVariants as counter
use Rattle.turn_rules.specs.Genuine.{IsGenuine, IsTakenAs}
use Rattle.turn_rules.specs.Slots.{Slot, first_slot, peer_counter, receives_at, slot_inbound}

-- a covered genuine packet is accepted at first delivery
abbrev pub PeerAcceptsGenuine : List Slot → List ℕ → EspVerdict → List ℕ → Type 0
PeerAcceptsGenuine old octets answer after =
    (number : ℕ) (slot : Slot) (payload : List ℕ) → first_slot (receives_at (spi_of octets)) old
    ≡ Some slot → IsGenuine (slot_inbound slot) number payload octets
    → IsTakenAs (peer_counter slot.sa counter.EspIn) number payload answer after
