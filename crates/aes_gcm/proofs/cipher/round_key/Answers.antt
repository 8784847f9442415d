use Rattle.std.proofs.Common.{◌≡◌, ◌+◌, ◌-◌, ◌*◌, arith}
use Rattle.aes_gcm.specs.Aes.{round_key}
use Rattle.aes_gcm.proofs.cipher.round_key.Goals as goal

pub returns-clause-key : goal.returns-clause-key
unfolding round_key
returns-clause-key c = let width : 16 * c.args.round + 16 - 16 * c.args.round ≡ 16 = omega arith in rw width
