use Rattle.std.proofs.Common.{◌∙◌, ap}
use Rattle.sk_payload.specs.Message.{plain_of}
use Rattle.sk_payload.specs.HeldFrame.{payloads_in}
use Rattle.sk_payload.proofs.Frames.{plain_is}
use Rattle.sk_payload.proofs.frame.Frame.plain.Goals as goal

pub returns : goal.returns
returns c =
    let f = c.self.inside in
    plain_is c.as_slice.result.now f.message.octets (payloads_in f.message.octets) c.as_slice.ensures.value c.self.invariant.octets c.self.invariant.valid
    ∙ ap (λ frame. plain_of frame.payloads) c.self.view_is
