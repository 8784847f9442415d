use Rattle.std.proofs.Common.{arith, rules}
use Rattle.aes_gcm.proofs.Lists.{xored_from_places}
use Rattle.aes_gcm.proofs.octets.xor_into.Goals as goal

pub returns : goal.returns
returns c =
    xored_from_places c.args.buf.now c.args.mask.now c.loop-i.buf (search rules) (search rules) (λ k h. c.loop-i.invariant.done k (omega arith))
