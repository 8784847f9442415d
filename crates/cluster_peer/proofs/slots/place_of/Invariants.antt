-- No association so far has the responder's SPI.
use Rattle.std.proofs.Common.{◌≡◌, None, take}
use Rattle.turn_rules.specs.Slots.{first_slot, has_spir}
use Rattle.cluster_peer.proofs.slots.place_of.Given as goal

abbrev pub invariant-loop-place : goal.invariant-loop-place
invariant-loop-place l = first_slot (has_spir l.spir) (take l.place l.items) ≡ None
