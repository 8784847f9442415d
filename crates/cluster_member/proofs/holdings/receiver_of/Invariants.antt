-- What was found among the holdings so far.
use Rattle.std.proofs.Common.{take}
use Rattle.cluster_member.proofs.ReceiverLemmas.{IsFound}
use Rattle.cluster_member.proofs.holdings.receiver_of.Given as goal

abbrev pub invariant-loop-place : goal.invariant-loop-place
invariant-loop-place l = IsFound l.spi l.items (take l.place l.items) l.found
