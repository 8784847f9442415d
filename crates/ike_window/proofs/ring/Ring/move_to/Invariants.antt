-- The slots so far keep the messages from the first on.
use Rattle.std.proofs.Common.{◌≡◌, ◌++◌, take, drop}
use Rattle.std.specs.Prelude.{map}
use Rattle.ike_window.specs.Slots.{from_on}
use Rattle.ike_window.proofs.ring.Ring.move_to.Given as goal

abbrev pub invariant-loop-slot : goal.invariant-loop-slot
invariant-loop-slot g l =
    l.slot-items ≡ map (from_on l.first) (take l.slot-index l.initial.slot-items) ++ drop l.slot-index l.initial.slot-items
