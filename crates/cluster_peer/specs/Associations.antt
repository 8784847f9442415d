-- What the peer keeps of an association.
use Rattle.std.specs.Prelude.{◌≡◌, true}
use Rattle.ike_sas.specs.Held.{IkeHeld}
use Rattle.keeper_book.specs.CounterEnds.{end_of}
use Rattle.keeper_book.specs.declared.counters.Counter.{Counter}
use Rattle.keeper_book.specs.declared.counters.Counter.TheVariants as counter
use Rattle.keeper_book.specs.declared.records.Record.{Record}
use Rattle.spend_once.specs.Lot.{Remaining}
use Rattle.turn_rules.specs.Packets.{Inbound, Outbound}
use Rattle.turn_rules.specs.PeerMessages.{peer_keys}
use Rattle.turn_rules.specs.Slots.{peer_counter}

-- the numbers that are left are those of the peer's counter, up to its end
pub record AreSlotNumbers (sa : Record) (c : Counter) (lot : Remaining) : Type 0 where
  pub name : lot.name ≡ peer_counter sa c
  pub end : lot.end ≡ end_of sa c

-- what is held of IKE messages is held with the keys of the record, and the peer may answer
pub record IsIkeOfRecord (sa : Record) (ivs : Remaining) (ike : IkeHeld) : Type 0 where
  pub numbers : AreSlotNumbers sa counter.Iv ivs
  pub keys : ike.keys ≡ peer_keys sa
  pub synced : ike.synced ≡ true

-- the numbers that are left, and what is sent and received with, are those of the record
pub record IsOfRecord (sa : Record) (lot : Remaining) (outbound : Outbound)
    (inbound : Inbound) : Type 0 where
  pub numbers : AreSlotNumbers sa counter.EspOut lot
  pub sent_name : outbound.key.name ≡ peer_counter sa counter.EspOut
  pub sent_key : outbound.key.octets ≡ sa.child.to_cluster
  pub sent_spi : outbound.spi ≡ sa.spi_in
  pub received_counter : inbound.counter ≡ peer_counter sa counter.EspIn
  pub received_key : inbound.key ≡ sa.child.to_peer
  pub received_spi : inbound.spi ≡ sa.spi_out
