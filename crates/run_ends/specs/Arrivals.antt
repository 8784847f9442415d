-- What an end does with what arrives, and what it is then.
use Rattle.std.specs.Prelude.{ℕ, List, []}
use Rattle.events.specs.declared.turn.Medium.{Medium}
use Rattle.events.specs.declared.turn.Step.{Step}
use Rattle.ha_base.specs.declared.outside.Moment.{Moment}
use Rattle.keeper_book.specs.declared.calls.Call.{Call}
use Rattle.turn_rules.specs.Deliveries.{MemberGets, PeerGets}
use Rattle.turn_rules.specs.Tasks as task
use Rattle.cluster_member.specs.Members.{Holder, IsAfter, member_held}
use Rattle.cluster_peer.specs.Slots.{IsPeerAfterAt, PeerWithRoom}

-- an IKE message or an ESP packet is received by its rule
abbrev pub MemberTakesIn : Medium → Moment → List ℕ → List Call → Step → Holder → Holder → Type 0
MemberTakesIn medium now octets calls step old new =
    MemberGets medium (member_held old) now octets calls step
    × IsAfter task.Receive calls step old new

abbrev pub PeerTakesIn : Medium → Moment → List ℕ → Step → PeerWithRoom → PeerWithRoom → Type 0
PeerTakesIn medium now octets step old new =
    PeerGets medium old.held.slots octets [] step × IsPeerAfterAt now task.Receive step old new
