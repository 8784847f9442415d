use Rattle.std.proofs.Common.{refl}
use Rattle.aes_gcm.specs.Aes.{rot_word}
use Rattle.aes_gcm.proofs.expansion.rot_word.Goals as goal

pub returns : goal.returns
unfolding rot_word
returns c = refl
