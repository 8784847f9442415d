use Rattle.std.proofs.Common.{true}
use Rattle.sk_payload.proofs.Openings.{opens}
use Rattle.sk_payload.proofs.laws.sealed_messages_open.Goals as goal

pub returns : goal.returns
returns c = λ key iv header payloads octets answer datagram is.
    opens c.one_message.ensures.one_value c.one_message.ensures.not_both
    (λ first bytes payloads others. c.one_reading.ensures.one_value first true bytes payloads others)
    (λ first bytes payloads place reason. c.one_reading.ensures.not_both first true bytes payloads place reason)
    key iv header payloads octets datagram answer is
