-- No association so far has the two SPIs.
use Rattle.std.proofs.Common.{◌≡◌, None, take}
use Rattle.turn_rules.specs.PeerMessages.{has_spis}
use Rattle.turn_rules.specs.Slots.{first_slot}
use Rattle.cluster_peer.proofs.messages.place_of_spis.Given as goal

abbrev pub invariant-loop-place : goal.invariant-loop-place
invariant-loop-place l = first_slot (has_spis l.spii l.spir) (take l.place l.items) ≡ None
