use Rattle.std.proofs.Common.{◌/◌, ◌%◌, ◌^◌, arith}
use Rattle.aes_gcm.proofs.WordRounds.{row_2_is}
use Rattle.aes_gcm.proofs.first_round.row_2.Goals as goal

pub returns : goal.returns
returns c = row_2_is (c.args.column / 2 ^ 16 % 256) (omega arith)
