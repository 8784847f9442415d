use Rattle.std.proofs.Common.{◌/◌, ◌%◌, ◌^◌, arith}
use Rattle.aes_gcm.proofs.WordRounds.{row_3_is}
use Rattle.aes_gcm.proofs.first_round.row_3.Goals as goal

pub returns : goal.returns
returns c = row_3_is (c.args.column / 2 ^ 24 % 256) (omega arith)
