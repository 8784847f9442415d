-- A covered genuine packet is accepted at first delivery.
use Rattle.std.proofs.Common.{◌≡◌, ℕ, ◌<◌, List, Option, Some, Ok, length, ⊎_elim, subst}
use Rattle.std.specs.Prelude.{MatchOption}
use Rattle.std.proofs.lemmas.Bool.{cases_lt}
use Rattle.esp_packets.specs.Laws.{Accepts, SealedPacketsOpen}
use Rattle.events.specs.declared.verdict.EspVerdict.{EspVerdict}
use Rattle.keeper_book.specs.declared.counters.Counter.TheVariants as counter
use Rattle.turn_rules.proofs.GenuinePackets.{IsSized, genuine-long, genuine-opens}
use Rattle.turn_rules.proofs.KeySizes.{sized_to_peer}
use Rattle.turn_rules.specs.Genuine.{IsGenuine, IsTakenAs}
use Rattle.turn_rules.specs.Slots.{PeerReceives, Slot, SlotReceives, SlotTakes, peer_counter, slot_inbound}
use Rattle.cluster_peer.specs.Genuine.{PeerAcceptsGenuine}

module _ (law : SealedPacketsOpen) (slot : Slot) (number : ℕ) (payload octets : List ℕ) (genuine : IsGenuine (slot_inbound slot) number payload octets) where
  its_key : IsSized (slot_inbound slot)
  its_key = sized_to_peer slot.sa.size slot.sa.keys slot.sa.child slot.sa.key_lengths

  not_short : length octets < 34 → ⊥
  not_short short = genuine-long law (slot_inbound slot) its_key number payload octets genuine short

  received_accepted : (answer : EspVerdict) (after : List ℕ) → SlotReceives slot octets answer after → IsTakenAs (peer_counter slot.sa counter.EspIn) number payload answer after
  received_accepted answer after r =
      let opened : Accepts number payload 4 r.opened after = genuine-opens law (slot_inbound slot) its_key number payload octets genuine r.opened after r.opens in
      let takes : SlotTakes slot (Ok opened.packet) answer = subst (λ o. SlotTakes slot o answer) opened.accepted r.takes in
      record {
        packet = opened.packet;
        said = takes;
        number_is = opened.number_is;
        next_header_is = opened.next_header_is;
        payload_is = opened.payload_is;
      }

  found_accepted : (A : Type 0) (found : Option Slot) (answer : EspVerdict) (after : List ℕ) → found ≡ Some slot
      → MatchOption found A (λ s. SlotReceives s octets answer after) → IsTakenAs (peer_counter slot.sa counter.EspIn) number payload answer after
  found_accepted A found answer after is r = received_accepted answer after (subst (λ f. MatchOption f A (λ s. SlotReceives s octets answer after)) is r)

pub genuine_accepted : SealedPacketsOpen → (old : List Slot) (octets : List ℕ) (answer : EspVerdict) (after : List ℕ) → PeerReceives old octets answer after → PeerAcceptsGenuine old octets answer after
genuine_accepted law old octets answer after r number slot payload is genuine =
    ⊎_elim (λ l. absurd (not_short law slot number payload octets genuine l))
    (λ l. found_accepted law slot number payload octets genuine _ _ answer after is (r.long l))
    (cases_lt (length octets) 34)
