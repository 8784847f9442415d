-- The horizons of what a member holds.
use Rattle.std.specs.Prelude.{ℕ, ◌≡◌, ◌≤◌}
use Rattle.events.specs.declared.verdict.EspVerdict.{EspVerdict}
use Rattle.events.specs.declared.verdict.EspVerdict.TheVariants as esp
use Rattle.ha_base.specs.declared.esp_outcomes.EspOpened.{EspOpened}
use Rattle.horizons.specs.Reaches.{Reach}
use Rattle.ike_sas.specs.Held.{IkeHeld}
use Rattle.keeper_book.specs.CounterEnds.{end_of}
use Rattle.keeper_book.specs.declared.counters.Counter.{Counter}
use Rattle.keeper_book.specs.declared.counters.Counter.TheVariants as counter
use Rattle.keeper_book.specs.declared.records.Record.{Record}
use Rattle.turn_rules.specs.Draws.{counter_name}
use Rattle.turn_rules.specs.MemberMessages.{cluster_keys}
use Rattle.turn_rules.specs.Packets.{Inbound, Outbound}

-- the horizon is that of this counter of the association, in this epoch
pub record IsHorizon (sa : Record) (epoch : ℕ) (c : Counter) (horizon : Reach) : Type 0 where
  pub name : horizon.name ≡ counter_name sa c
  pub counter : horizon.counter ≡ c
  pub spir : horizon.spir ≡ sa.spir
  pub epoch_is : horizon.epoch ≡ epoch
  pub end_is : horizon.end ≡ end_of sa c

-- there is one for each counter
pub record AreHorizons (sa : Record) (epoch : ℕ)
    (esp_out esp_in iv ask answer : Reach) : Type 0 where
  pub of_esp_out : IsHorizon sa epoch counter.EspOut esp_out
  pub of_esp_in : IsHorizon sa epoch counter.EspIn esp_in
  pub of_iv : IsHorizon sa epoch counter.Iv iv
  pub of_ask : IsHorizon sa epoch counter.Ask ask
  pub of_answer : IsHorizon sa epoch counter.Answer answer

-- what is sent and received with is that of the record, and the window begins where the epoch does
pub record AreOfRecord (sa : Record) (esp_in : Reach) (outbound : Outbound)
    (inbound : Inbound) : Type 0 where
  pub sent_name : outbound.key.name ≡ counter_name sa counter.EspOut
  pub sent_key : outbound.key.octets ≡ sa.child.to_peer
  pub sent_spi : outbound.spi ≡ sa.spi_out
  pub received_counter : inbound.counter ≡ counter_name sa counter.EspIn
  pub received_key : inbound.key ≡ sa.child.to_cluster
  pub received_spi : inbound.spi ≡ sa.spi_in
  pub received_base : inbound.window.base ≡ esp_in.base

-- IKE messages are sealed and opened with the keys of the record, and the next request has the next
-- Message ID
pub record AreMessages (sa : Record) (ask : Reach) (ike : IkeHeld) : Type 0 where
  pub keys : ike.keys ≡ cluster_keys sa
  pub next : ike.next ≡ ask.next

-- the epoch answers Message IDs from its base on
pub record IsHolding (sa : Record) (epoch : ℕ) (esp_out esp_in iv ask answer : Reach)
    (outbound : Outbound) (inbound : Inbound) (ike : IkeHeld) : Type 0 where
  pub horizons : AreHorizons sa epoch esp_out esp_in iv ask answer
  pub packets : AreOfRecord sa esp_in outbound inbound
  pub messages : AreMessages sa ask ike
  pub answered_from : answer.base ≤ ike.answered.low

-- where a packet is accepted, it is this one
abbrev pub TookPacket : EspOpened → EspVerdict → Type 0
TookPacket packet (esp.Accepted name other) = other ≡ packet
TookPacket packet answer = Unit {0}
