-- What is sent again leaves the peer.
use Rattle.std.proofs.Common.{ap, subst}
use Rattle.std.specs.Prelude.{IfOk}
use Rattle.std.proofs.lemmas.Result.{IfOk-weaker}
use Rattle.turn_rules.specs.PeerMessages.{PeerResends}
use Rattle.turn_rules.specs.Tasks as task
use Rattle.cluster_peer.specs.Slots.{IsPeerAfter, PeerWithRoom}
use Rattle.cluster_peer.proofs.MessageLaws.{resent-after}
use Rattle.cluster_peer.proofs.peer.Peer.again.Goals as goal

pub returns-clause-after : goal.returns-clause-after
returns-clause-after c =
    let peer = c.args.self.now in
    IfOk-weaker c.again.result (λ step. PeerResends c.args.spir peer.held.slots c.args.id step)
    (λ step. IsPeerAfter (task.Again c.args.spir c.args.id) step peer peer)
    (λ step. resent-after c.args.spir c.args.id peer step)
    (subst (λ slots. IfOk c.again.result (PeerResends c.args.spir slots c.args.id)) (ap (λ (v : PeerWithRoom). v.held.slots) c.self.view_is) c.again.ensures)
