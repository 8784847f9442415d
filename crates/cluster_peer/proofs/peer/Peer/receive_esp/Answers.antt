-- A covered genuine packet is accepted at first delivery.
use Rattle.std.proofs.Common.{◌≡◌, ap, ◌∙◌, subst}
use Rattle.turn_rules.specs.PeerStates.{peer_after}
use Rattle.turn_rules.specs.Slots.{PeerReceives}
use Rattle.turn_rules.specs.Tasks as task
use Rattle.cluster_peer.specs.Slots.{PeerWithRoom}
use Rattle.cluster_peer.proofs.GenuineLaws.{genuine_accepted}
use Rattle.cluster_peer.proofs.SlotLaws.{held-after}
use Rattle.cluster_peer.proofs.peer.Peer.receive_esp.Goals as goal

pub returns-clause-genuine : goal.returns-clause-genuine
returns-clause-genuine c =
    let old : c.self.inside.slots.slots ≡ c.args.self.now.held.slots = ap (λ (v : PeerWithRoom). v.held.slots) c.self.view_is in
    let received : PeerReceives c.args.self.now.held.slots c.args.bytes.now c.receive.result c.receive.new.bytes =
    subst (λ ss. PeerReceives ss c.args.bytes.now c.receive.result c.receive.new.bytes) old c.receive.ensures.receives in
    genuine_accepted c.sealed_packets_open.ensures c.args.self.now.held.slots c.args.bytes.now c.receive.result c.receive.new.bytes received

pub returns-clause-after : goal.returns-clause-after
returns-clause-after c = λ step worded quiet. record {
  window = ap (λ (v : PeerWithRoom). v.window) c.self.view_is;
  holds = λ now. held-after now task.Receive step c.self.inside.gateway c.self.inside.slots.slots c.receive.new.self.slots (c.receive.ensures.after now step worded quiet)
      ∙ ap (λ (v : PeerWithRoom). peer_after v.window now task.Receive step v.held) c.self.view_is;
}
