-- What a member does with ESP packets.
use Rattle.std.specs.Prelude.{ℕ, ◌≡◌, ◌≢◌, ◌<◌, ◌≤◌, ◌⊎◌, Option, Some, List, [], length, Result, Ok, Err}
use Rattle.esp_packets.specs.Packet.{spi_of}
use Rattle.events.specs.declared.turn.Step.{Step}
use Rattle.events.specs.declared.verdict.EspVerdict.{EspVerdict}
use Rattle.events.specs.declared.verdict.EspVerdict.TheVariants as esp
use Rattle.events.specs.declared.verdict.Verdict.TheVariants as out
use Rattle.ha_base.specs.declared.esp_outcomes.EspDrop.{EspDrop}
use Rattle.ha_base.specs.declared.esp_outcomes.EspDrop.TheVariants as drop
use Rattle.ha_base.specs.declared.esp_outcomes.EspOpened.{EspOpened}
use Rattle.horizons.specs.Ready.{Ready}
use Rattle.keeper_book.specs.Counters.{five_at}
use Rattle.keeper_book.specs.declared.calls.Call.{Call}
use Rattle.keeper_book.specs.declared.counters.Counter.TheVariants as counter
use Rattle.turn_rules.specs.Draws.{counter_name, reach_of, refusal_of_stop}
use Rattle.turn_rules.specs.Held.{Held}
use Rattle.turn_rules.specs.Packets.{Drops, Inbound, OpensEsp, Outbound, SendsEsp}
use Rattle.turn_rules.specs.Steps.{Says}

abbrev pub outbound_of : Held → Outbound
outbound_of held = record {
  key = record { name = counter_name held.sa counter.EspOut; octets = held.sa.child.to_peer };
  spi = held.sa.spi_out;
}

abbrev pub inbound_of : Held → Inbound
inbound_of held = record {
  counter = counter_name held.sa counter.EspIn;
  key = held.sa.child.to_cluster;
  spi = held.sa.spi_in;
  window = held.window;
}

-- a payload is sent under the next ESP number, once it is ready
abbrev pub SendsData : Held → List ℕ → List Call → Step → Type 0
SendsData held payload calls step = Ready (reach_of held counter.EspOut)
    (five_at held.nexts counter.EspOut) calls
    (λ why rest. (rest ≡ []) × Says (out.Refused (refusal_of_stop why)) step)
    (λ high rest. (rest ≡ []) × SendsEsp (outbound_of held)
    (five_at held.nexts counter.EspOut) payload step)

-- a packet that was opened is accepted once its number is ready
abbrev pub TakesPacket : Held → Result EspOpened EspDrop → List Call → EspVerdict → Type 0
TakesPacket held (Err why) calls answer = (calls ≡ []) × (answer ≡ esp.Dropped why)
TakesPacket held (Ok packet) calls answer = Ready (reach_of held counter.EspIn) packet.number calls
    (λ why rest. (rest ≡ []) × (answer ≡ esp.Refused (refusal_of_stop why)))
    (λ high rest. (rest ≡ []) × (answer ≡ esp.Accepted (counter_name held.sa counter.EspIn) packet))

-- what is done with the octets of a packet where this is held
pub record ReceivesPacket (held : Held) (octets : List ℕ) (calls : List Call) (answer : EspVerdict)
    (after : List ℕ) : Type 0 where
  pub opened : Result EspOpened EspDrop
  pub opens : OpensEsp (inbound_of held) octets opened after
  pub takes : TakesPacket held opened calls answer

-- of what is held by responder's SPI, nothing receives at this SPI
abbrev pub ReceivesNowhere : (ℕ → Option Held) → ℕ → Type 0
ReceivesNowhere held spi = (spir : ℕ) (h : Held) → held spir ≡ Some h → h.sa.spi_in ≢ spi

-- this is what receives at the SPI; where more does, it has the least responder's SPI of that
pub record IsReceiver (held : ℕ → Option Held) (spi spir : ℕ) (h : Held) : Type 0 where
  pub is_held : held spir ≡ Some h
  pub receives : h.sa.spi_in ≡ spi
  pub least : (other : ℕ) (g : Held) → held other ≡ Some g → g.sa.spi_in ≡ spi → spir ≤ other

-- what is received by what receives at the SPI of a packet
pub record IsReceived (held : ℕ → Option Held) (octets : List ℕ) (calls : List Call)
    (answer : EspVerdict) (after : List ℕ) : Type 0 where
  pub spir : ℕ
  pub receiver : Held
  pub is_receiver : IsReceiver held (spi_of octets) spir receiver
  pub receives : ReceivesPacket receiver octets calls answer after

-- the packet was dropped, and no call was made
abbrev pub DropsQuietly : EspDrop → List ℕ → List Call → EspVerdict → List ℕ → Type 0
DropsQuietly why octets calls answer after = (calls ≡ []) × Drops why octets answer after

-- What a member does with the octets of a packet: they are too short, or nothing receives at their
-- SPI, or what does receives them.
pub record MemberReceives (held : ℕ → Option Held) (octets : List ℕ) (calls : List Call)
    (answer : EspVerdict) (after : List ℕ) : Type 0 where
  pub short : length octets < 34 → DropsQuietly drop.Short octets calls answer after
  pub long : 34 ≤ length octets → (ReceivesNowhere held (spi_of octets)
      × DropsQuietly drop.WrongSpi octets calls answer after)
      ⊎ IsReceived held octets calls answer after
