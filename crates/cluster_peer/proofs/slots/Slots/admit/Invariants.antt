use Rattle.std.proofs.Common.{◌≡◌, drop}
use Rattle.std.specs.List.{list_any}
use Rattle.turn_rules.specs.Slots.{clashes}
use Rattle.cluster_peer.proofs.slots.Slots.admit.Given as goal

abbrev pub invariant-loop-association : goal.invariant-loop-association
invariant-loop-association l = list_any (clashes l.sa) l.association-items ≡ list_any (clashes l.sa) (drop l.association-index l.association-items)
