-- A covered genuine packet is accepted at first delivery.
use Rattle.std.proofs.Common.{ℕ, ◌^◌, ◌<◌, List, length, Ok, ⊎_elim, sym, subst}
use Rattle.std.proofs.lemmas.Bool.{cases_lt}
use Rattle.esp_packets.specs.Laws.{Accepts, SealedPacketsOpen}
use Rattle.esp_packets.specs.Packet.{spi_of}
use Rattle.events.specs.declared.verdict.EspVerdict.{EspVerdict}
use Rattle.keeper_book.specs.declared.calls.Call.{Call}
use Rattle.keeper_book.specs.declared.counters.Counter.TheVariants as counter
use Rattle.turn_rules.proofs.GenuinePackets.{IsSized, genuine-long, genuine-opens, ready-goes, same_receiver}
use Rattle.turn_rules.proofs.KeySizes.{sized_to_cluster}
use Rattle.turn_rules.specs.Draws.{counter_name}
use Rattle.turn_rules.specs.Genuine.{IsAcknowledged, IsGenuine, IsTakenAs}
use Rattle.turn_rules.specs.Held.{Held, held_at}
use Rattle.turn_rules.specs.MemberPackets.{MemberReceives, ReceivesPacket, TakesPacket, inbound_of}
use Rattle.cluster_member.specs.Genuine.{GenuineAreAccepted}

module _ (law : SealedPacketsOpen) (held : Held) (number : ℕ) (payload octets : List ℕ) (genuine : IsGenuine (inbound_of held) number payload octets) where
  its_key : IsSized (inbound_of held)
  its_key = sized_to_cluster held.sa.size held.sa.keys held.sa.child held.sa.key_lengths

  not_short : length octets < 34 → ⊥
  not_short short = genuine-long law (inbound_of held) its_key number payload octets genuine short

  received_accepted : (calls : List Call) (answer : EspVerdict) (after : List ℕ) → IsAcknowledged held number calls → ReceivesPacket held octets calls answer after → IsTakenAs (counter_name held.sa counter.EspIn) number payload answer after
  received_accepted calls answer after allowed r =
      let opened : Accepts number payload 4 r.opened after = genuine-opens law (inbound_of held) its_key number payload octets genuine r.opened after r.opens in
      let packet = opened.packet in
      let takes : TakesPacket held (Ok packet) calls answer = subst (λ o. TakesPacket held o calls answer) opened.accepted r.takes in
      let below : packet.number < 2 ^ 63 = subst (λ n. n < 2 ^ 63) (sym opened.number_is) genuine.covered.below_end in
      let mine : IsAcknowledged held packet.number calls = subst (λ n. IsAcknowledged held n calls) (sym opened.number_is) allowed in
      record {
        packet = packet;
        said = ready-goes held packet.number calls below (λ high rest g. g.1) mine takes;
        number_is = opened.number_is;
        next_header_is = opened.next_header_is;
        payload_is = opened.payload_is;
      }

pub genuine_accepted : SealedPacketsOpen → (old : List Held) (octets : List ℕ) (calls : List Call) (answer : EspVerdict) (after : List ℕ) → MemberReceives (held_at old) octets calls answer after → GenuineAreAccepted old octets calls answer after
genuine_accepted law old octets calls answer after r spir number held payload is genuine allowed =
    ⊎_elim (λ l. absurd (not_short law held number payload octets genuine l))
    (λ l. ⊎_elim (λ none. absurd (none.0 spir held is.is_held is.receives))
    (λ got. received_accepted law held number payload octets genuine calls answer after allowed
    (subst (λ g. ReceivesPacket g octets calls answer after) (same_receiver (held_at old) (spi_of octets) got.spir spir got.receiver held got.is_receiver is) got.receives))
    (r.long l))
    (cases_lt (length octets) 34)
