-- Whoever takes a message that came knows what it needs of it.
use Rattle.cluster_peer.proofs.Arriving.{comes-there}
use Rattle.cluster_peer.proofs.slots.Slots.receive_ike.Goals as goal

pub take_arrival-requires-clause-there : goal.take_arrival-requires-clause-there
take_arrival-requires-clause-there g c = comes-there c.args.self.now.slots c.args.bytes.now c.in_ok-arrival.arrival c.in_ok-arrival.ensures.steps c.in_ok-arrival.ensures.new
