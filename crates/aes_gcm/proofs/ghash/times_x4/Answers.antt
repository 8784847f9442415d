use Rattle.aes_gcm.proofs.HashTables.{times_x4_is}
use Rattle.aes_gcm.proofs.ghash.times_x4.Goals as goal

pub returns : goal.returns
returns c = times_x4_is c.args.element
