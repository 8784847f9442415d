use Rattle.aes_gcm.proofs.HeldKeys.{size_is}
use Rattle.aes_gcm.proofs.Key.name.Goals as goal

pub returns-clause-size : goal.returns-clause-size
returns-clause-size c = size_is c.self.inside c.args.self.now c.self.view_is c.self.told.1 c.self.invariant c.self.told.0
