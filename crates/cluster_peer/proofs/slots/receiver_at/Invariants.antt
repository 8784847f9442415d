-- No association so far receives at the SPI.
use Rattle.std.proofs.Common.{◌≡◌, None, take}
use Rattle.turn_rules.specs.Slots.{first_slot, receives_at}
use Rattle.cluster_peer.proofs.slots.receiver_at.Given as goal

abbrev pub invariant-loop-place : goal.invariant-loop-place
invariant-loop-place l = first_slot (receives_at l.spi) (take l.place l.items) ≡ None
