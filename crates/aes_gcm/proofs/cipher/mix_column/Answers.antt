use Rattle.aes_gcm.specs.Aes.{mix_column}
use Rattle.aes_gcm.proofs.cipher.mix_column.Goals as goal

pub returns : goal.returns
unfolding mix_column
returns c =
    rw (c.double.ensures, c.double-2.ensures, c.double-3.ensures, c.double-4.ensures, c.triple.ensures, c.triple-2.ensures, c.triple-3.ensures, c.triple-4.ensures)
