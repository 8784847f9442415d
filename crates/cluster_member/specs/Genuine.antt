-- Packets that the peer sealed for what a member holds.
use Rattle.std.specs.Prelude.{ℕ, List}
use Rattle.esp_packets.specs.Packet.{spi_of}
use Rattle.events.specs.declared.verdict.EspVerdict.{EspVerdict}
use Rattle.keeper_book.specs.declared.calls.Call.{Call}
use Rattle.keeper_book.specs.declared.counters.Counter.TheVariants as counter
use Rattle.turn_rules.specs.Draws.{counter_name}
use Rattle.turn_rules.specs.Held.{Held, held_at}
use Rattle.turn_rules.specs.Genuine.{IsAcknowledged, IsGenuine, IsTakenAs}
use Rattle.turn_rules.specs.MemberPackets.{IsReceiver, inbound_of}

-- a covered genuine packet is accepted at first delivery
abbrev pub GenuineAreAccepted : List Held → List ℕ → List Call → EspVerdict → List ℕ → Type 0
GenuineAreAccepted old octets calls answer after =
    (spir number : ℕ) (held : Held) (payload : List ℕ)
    → IsReceiver (held_at old) (spi_of octets) spir held
    → IsGenuine (inbound_of held) number payload octets
    → IsAcknowledged held number calls → IsTakenAs
    (counter_name held.sa counter.EspIn) number payload answer after
