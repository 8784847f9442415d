use Rattle.aes_gcm.proofs.HashTables.{four_bits}
use Rattle.aes_gcm.proofs.ghash.times_four_bits.Goals as goal

pub returns : goal.returns
returns c =
    rw (c.times_x.ensures, c.times_x-third.ensures, c.times_x-second.ensures) (four_bits c.args.bits c.args.element)
