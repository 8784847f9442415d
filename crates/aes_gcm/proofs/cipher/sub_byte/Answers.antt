use Rattle.std.proofs.Common.{arith}
use Rattle.aes_gcm.proofs.OctetLaws.{table_is}
use Rattle.aes_gcm.proofs.cipher.sub_byte.Goals as goal

pub returns : goal.returns
returns c = table_is c.args.octet (omega arith)
