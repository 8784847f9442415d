use Rattle.std.proofs.Common.{◌/◌, ◌%◌, ◌^◌, arith}
use Rattle.aes_gcm.proofs.WordRounds.{substituted_is}
use Rattle.aes_gcm.proofs.columns.column.Goals as goal

pub returns : goal.returns
returns c =
    substituted_is (c.args.a % 256) (c.args.b / 2 ^ 8 % 256) (c.args.c / 2 ^ 16 % 256) (c.args.d / 2 ^ 24 % 256) (omega arith) (omega arith) (omega arith) (omega arith)
