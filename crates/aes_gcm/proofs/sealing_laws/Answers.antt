use Rattle.aes_gcm.proofs.Seals.{sealing}
use Rattle.aes_gcm.proofs.sealing_laws.Goals as goal

pub returns : goal.returns
returns c = sealing
