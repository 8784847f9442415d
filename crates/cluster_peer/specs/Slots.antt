-- The associations of the peer, and where they stand.
use Rattle.std.specs.Prelude.{ℕ, ◌≡◌, ◌<◌, Bool, true, None, List, length, take, slice_index_or}
use Rattle.events.specs.declared.turn.Step.{Step}
use Rattle.events.specs.declared.verdict.EspVerdict.{EspVerdict}
use Rattle.events.specs.declared.verdict.EspVerdict.TheVariants as esp
use Rattle.ha_base.specs.declared.outside.Moment.{Moment}
use Rattle.replay_set.specs.Window.{with_noted}
use Rattle.turn_rules.specs.Packets.{IsVerdictOf}
use Rattle.turn_rules.specs.PeerStates.{PeerHeld, peer_after}
use Rattle.turn_rules.specs.Slots.{Slot, first_slot}
use Rattle.turn_rules.specs.Steps.{IsQuiet}
use Rattle.turn_rules.specs.Tasks as task
use Rattle.turn_rules.specs.Tasks.{Task}

-- what the peer holds, the receive window of associations that come, and for how many more there is
-- room
pub record PeerWithRoom : Type 0 where
  pub held : PeerHeld
  pub window : ℕ
  pub spare : ℕ

-- associations, and for how many more there is room
pub record Slotted : Type 0 where
  pub slots : List Slot
  pub spare : ℕ

-- the first slot that passes a test stands at this place
pub record IsFirstSlot (test : Slot → Bool) (place : ℕ) (slots : List Slot) : Type 0 where
  pub within : place < length slots
  pub none_before : first_slot test (take place slots) ≡ None
  pub here : (slot : Slot) → slot ≡ slice_index_or slots place slot → test slot ≡ true

-- what an association is once its answer to a packet was given: the number of a packet that was
-- accepted is noted
abbrev pub slot_noted : EspVerdict → Slot → Slot
slot_noted (esp.Accepted counter packet) slot =
    record slot { window = with_noted slot.window packet.number }
slot_noted answer slot = slot

-- what the peer is after a task at a moment
pub record IsPeerAfterAt (now : Moment) (asked : Task) (step : Step)
    (old new : PeerWithRoom) : Type 0 where
  pub window : new.window ≡ old.window
  pub holds : new.held ≡ peer_after old.window now asked step old.held

-- the same, whatever the moment is
pub record IsPeerAfter (asked : Task) (step : Step) (old new : PeerWithRoom) : Type 0 where
  pub window : new.window ≡ old.window
  pub holds : (now : Moment) → new.held ≡ peer_after old.window now asked step old.held

-- the same of a packet, by a step that words the answer and does nothing else
abbrev pub IsPeerAfterPacket : EspVerdict → List ℕ → PeerWithRoom → PeerWithRoom → Type 0
IsPeerAfterPacket answer after old new = (step : Step) → IsVerdictOf answer after step.verdict
    → IsQuiet step → IsPeerAfter task.Receive step old new
