use Rattle.std.proofs.Common.{refl}
use Rattle.aes_gcm.specs.Aes.{shift_rows}
use Rattle.aes_gcm.proofs.cipher.shift_rows.Goals as goal

pub returns : goal.returns
unfolding shift_rows
returns c = refl
