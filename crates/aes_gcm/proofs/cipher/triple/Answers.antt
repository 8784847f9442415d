use Rattle.std.proofs.Common.{arith}
use Rattle.aes_gcm.proofs.OctetLaws.{triple_is}
use Rattle.aes_gcm.proofs.cipher.triple.Goals as goal

pub returns : goal.returns
returns c = rw c.double.ensures (triple_is c.args.a (omega arith))
