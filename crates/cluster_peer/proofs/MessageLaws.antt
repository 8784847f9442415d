-- What the peer holds after its part on an IKE message.
use Rattle.std.proofs.Common.{◌≡◌, ℕ, ◌<◌, Option, Some, None, Result, List, [], map, length, get_or, refl, unwrap_or, ap, ◌∙◌}
use Rattle.std.specs.Prelude.{MatchOption}
use Rattle.std.proofs.Math.ListN.{set}
use Rattle.events.specs.declared.ike_outcomes.IkeDrop.{IkeDrop}
use Rattle.events.specs.declared.turn.Step.{Step}
use Rattle.events.specs.declared.verdict.Refusal.TheVariants as refusal
use Rattle.events.specs.declared.verdict.Verdict.TheVariants as out
use Rattle.ha_base.specs.declared.outside.Moment.{Moment}
use Rattle.ike_values.specs.Values.{PayloadValue}
use Rattle.ike_values.specs.declared.fault.Bad.{Bad}
use Rattle.ike_window.specs.Kept.{kept_octets}
use Rattle.keeper_book.specs.declared.counters.Counter.TheVariants as counter
use Rattle.sk_payload.specs.declared.open.Opened.{Opened}
use Rattle.turn_rules.specs.Messages.{GivesAgain, Resends, TakesInner}
use Rattle.turn_rules.specs.PeerMessages.{KeepsTicket, PeerResends, SlotAnswers, SlotAsks, SlotSynchronises, slot_ike}
use Rattle.turn_rules.specs.Peers.{AreDistinct}
use Rattle.turn_rules.specs.Slots.{Slot, first_slot, has_spir, peer_counter, records, slot_after}
use Rattle.turn_rules.specs.Steps.{Says}
use Rattle.turn_rules.specs.Tasks as task
use Rattle.cluster_peer.proofs.MessageMoves.{answers-others, asks-others, dropped-made, repeated-made, reply-others, resent-made}
use Rattle.cluster_peer.proofs.Moves.{nothing-after}
use Rattle.cluster_peer.proofs.SyncMoves.{sync-others}
use Rattle.cluster_peer.proofs.SlotLaws.{held-after, kept_all, put, refused-kept}
use Rattle.cluster_peer.specs.Slots.{IsPeerAfter, PeerWithRoom}

module _ (now : Moment) (step : Step) (place : ℕ) (slots : List Slot) (slot new : Slot) (within : place < length slots) (is : slot ≡ get_or slots place slot) (apart : AreDistinct (records slots)) where
  pub asked-after : (spir : ℕ) (payloads : List PayloadValue) → slot.sa.spir ≡ spir → SlotAsks slot payloads step → new ≡ slot_after now (task.Ask slot.sa.spir payloads) step slot
      → set slots place new ≡ map (slot_after now (task.Ask spir payloads) step) slots
  asked-after spir payloads own asks goes =
      put (slot_after now (task.Ask spir payloads) step) place slots slot new within is apart
      (goes ∙ ap (λ s. slot_after now (task.Ask s payloads) step slot) own)
      (λ other differ. nothing-after now (task.Ask spir payloads) step other (asks-others now other.sa.spir spir slot payloads step own differ asks))

  pub answered-after : (request : Opened) → SlotAnswers slot request [] step → new ≡ slot_after now task.Receive step slot → set slots place new ≡ map (slot_after now task.Receive step) slots
  answered-after request answers goes =
      put (slot_after now task.Receive step) place slots slot new within is apart goes
      (λ other differ. nothing-after now task.Receive step other (answers-others now other.sa.spir slot request step differ answers))

  pub replied-after : (id : ℕ) (inner : Result (List PayloadValue) Bad) → TakesInner KeepsTicket (peer_counter slot.sa counter.Ask) id inner step → new ≡ slot_after now task.Receive step slot
      → set slots place new ≡ map (slot_after now task.Receive step) slots
  replied-after id inner takes goes =
      put (slot_after now task.Receive step) place slots slot new within is apart goes
      (λ other differ. nothing-after now task.Receive step other (reply-others now other.sa.spir slot id inner step differ takes))

  pub synchronised-after : (request : Opened) → SlotSynchronises slot request [] step → new ≡ slot_after now task.Receive step slot → set slots place new ≡ map (slot_after now task.Receive step) slots
  synchronised-after request does goes =
      put (slot_after now task.Receive step) place slots slot new within is apart goes
      (λ other differ. nothing-after now task.Receive step other (sync-others now other.sa.spir slot request step differ does))

-- what is dropped or repeated leaves all associations
pub drop-kept : (now : Moment) (why : IkeDrop) (step : Step) (slots : List Slot) → Says (out.DroppedIke why) step → slots ≡ map (slot_after now task.Receive step) slots
drop-kept now why step slots says = kept_all (slot_after now task.Receive step) slots (λ slot. nothing-after now task.Receive step slot (dropped-made now why step slot.sa.spir says))

pub repeat-kept : (now : Moment) (id : ℕ) (octets : List ℕ) (step : Step) (slots : List Slot) → GivesAgain (out.Repeated id) octets step → slots ≡ map (slot_after now task.Receive step) slots
repeat-kept now id octets step slots gives = kept_all (slot_after now task.Receive step) slots (λ slot. nothing-after now task.Receive step slot (repeated-made now id octets step slot.sa.spir gives))

-- and so does what is sent again
module _ (now : Moment) (spir id : ℕ) (step : Step) (slots : List Slot) where
  again : (kept : Option (List ℕ)) → MatchOption kept (Says (out.Refused (refusal.NotOutstanding id)) step) (λ octets. GivesAgain (out.Resent id) octets step) → slots ≡ map (slot_after now (task.Again spir id) step) slots
  again None says = kept_all (slot_after now (task.Again spir id) step) slots (refused-kept now (task.Again spir id) step (refusal.NotOutstanding id) says)
  again (Some octets) gives = kept_all (slot_after now (task.Again spir id) step) slots (λ slot. nothing-after now (task.Again spir id) step slot (resent-made now spir id octets step slot.sa.spir gives))

  found-again : (found : Option Slot) → MatchOption found (Says (out.Refused refusal.Unknown) step) (λ slot. Resends id (slot_ike slot) step) → slots ≡ map (slot_after now (task.Again spir id) step) slots
  found-again None says = kept_all (slot_after now (task.Again spir id) step) slots (refused-kept now (task.Again spir id) step refusal.Unknown says)
  found-again (Some slot) resends = again (kept_octets id slot.asked) resends

  pub resend-kept : PeerResends spir slots id step → slots ≡ map (slot_after now (task.Again spir id) step) slots
  resend-kept resends = found-again (first_slot (has_spir spir) slots) resends

pub resent-after : (spir id : ℕ) (peer : PeerWithRoom) (step : Step) → PeerResends spir peer.held.slots id step → IsPeerAfter (task.Again spir id) step peer peer
resent-after spir id peer step resends = record {
  window = refl;
  holds = λ now. held-after now (task.Again spir id) step peer.held.gateway peer.held.slots peer.held.slots (resend-kept now spir id step peer.held.slots resends);
}

pub one-slot : (a b : Slot) → Some a ≡ Some b → a ≡ b
one-slot a b same = ap (λ found. unwrap_or found a) same
