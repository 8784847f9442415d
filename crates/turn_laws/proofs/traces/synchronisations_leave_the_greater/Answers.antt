-- Each synchronisation of a trace, by the laws of one.
use Rattle.std.proofs.Common.{ℕ, List, [], ◌∷◌, ◌++◌, subst}
use Rattle.events.specs.declared.turn.Turn.{Turn}
use Rattle.turn_laws.proofs.MemberSyncs.{member-synchronised}
use Rattle.turn_laws.proofs.PeerSyncs.{peer-synchronised}
use Rattle.turn_laws.proofs.TakenFrom.{member-takes-from, peer-takes-from}
use Rattle.turn_laws.proofs.traces.synchronisations_leave_the_greater.Goals as goal
use Rattle.turn_laws.specs.Synchronising.{AreGreater}
use Rattle.turn_rules.specs.Local.{Explained}

are-greater : (boxes : ℕ) (past : List Turn) → Explained boxes past → AreGreater past
are-greater boxes [] local = tt
are-greater boxes (turn ∷ past) local = (peer-synchronised boxes past turn local, member-synchronised boxes past turn local, are-greater boxes past local.1)

pub returns : goal.returns
returns c = λ boxes past local. record {
  greater = are-greater boxes past local;
  none_below = λ later before turn is.
      let split : Explained boxes (later ++ turn ∷ before) = subst (λ turns. Explained boxes turns) is local in
      (peer-takes-from boxes later before turn split, member-takes-from boxes later before turn split);
}
