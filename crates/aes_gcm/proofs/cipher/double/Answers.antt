use Rattle.std.proofs.Common.{arith}
use Rattle.aes_gcm.proofs.OctetLaws.{double_is}
use Rattle.aes_gcm.proofs.cipher.double.Goals as goal

pub returns : goal.returns
returns c = double_is c.args.a (omega arith)
