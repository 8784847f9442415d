use Rattle.aes_gcm.proofs.HashTables.{sum_is}
use Rattle.aes_gcm.proofs.ghash.sum_of_windows.Goals as goal

pub returns : goal.returns
returns c = sum_is c.args.tables.now c.requires c.args.a
