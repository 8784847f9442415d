use Rattle.std.proofs.Common.{ap, length, arith}
use Rattle.sk_payload.specs.HeldFrame.{payloads_in}
use Rattle.sk_payload.specs.Message.{plain_of}
use Rattle.sk_payload.proofs.Frames.{octets_long}
use Rattle.sk_payload.proofs.frame.Frame.message_octets.Goals as goal

pub returns-clause-octets : goal.returns-clause-octets
returns-clause-octets c =
    let f = c.self.inside in
    omega (arith, octets_long f.message.octets (payloads_in f.message.octets) c.self.invariant.octets c.self.invariant.valid, ap (λ frame. length (plain_of frame.payloads)) c.self.view_is, ap length c.as_slice.ensures.value)
