-- A send lets no association in.
use Rattle.std.proofs.Common.{ap, ◌∙◌}
use Rattle.turn_rules.specs.PeerStates.{peer_after}
use Rattle.turn_rules.specs.Tasks as task
use Rattle.cluster_peer.specs.Slots.{PeerWithRoom}
use Rattle.cluster_peer.proofs.SlotLaws.{held-after}
use Rattle.cluster_peer.proofs.peer.Peer.send_data.Goals as goal

pub returns-clause-after : goal.returns-clause-after
returns-clause-after c =
    let asked = task.Send c.args.spir c.args.payload.now in
    record {
      window = ap (λ (v : PeerWithRoom). v.window) c.self.view_is;
      holds = λ now. held-after now asked c.send.result c.self.inside.gateway c.self.inside.slots.slots c.send.new.self.slots (c.send.ensures.after now)
          ∙ ap (λ (v : PeerWithRoom). peer_after v.window now asked c.send.result v.held) c.self.view_is;
    }
