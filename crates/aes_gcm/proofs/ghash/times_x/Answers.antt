use Rattle.std.proofs.Common.{refl}
use Rattle.aes_gcm.specs.Gcm.{next_power}
use Rattle.aes_gcm.proofs.ghash.times_x.Goals as goal

pub returns : goal.returns
unfolding next_power
returns c = refl
