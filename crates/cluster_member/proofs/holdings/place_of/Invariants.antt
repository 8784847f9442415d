-- Nothing so far is held of the association.
use Rattle.std.proofs.Common.{◌≡◌, None, take}
use Rattle.turn_rules.specs.Held.{held_at}
use Rattle.cluster_member.proofs.holdings.place_of.Given as goal

abbrev pub invariant-loop-place : goal.invariant-loop-place
invariant-loop-place l = held_at (take l.place l.items) l.spir ≡ None
