use Rattle.std.proofs.Common.{◌≡◌, ◌+◌, ◌-◌, ◌*◌, arith}
use Rattle.aes_gcm.specs.Aes.{word}
use Rattle.aes_gcm.proofs.expansion.word.Goals as goal

pub returns-clause-word : goal.returns-clause-word
unfolding word
returns-clause-word c = let width : 4 * c.args.i + 4 - 4 * c.args.i ≡ 4 = omega arith in rw width
