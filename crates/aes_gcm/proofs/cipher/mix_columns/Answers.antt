use Rattle.aes_gcm.specs.Aes.{mix_column, mix_columns}
use Rattle.aes_gcm.proofs.cipher.mix_columns.Goals as goal

pub returns : goal.returns
unfolding mix_column mix_columns
returns c =
    rw (c.mix_column-a.ensures, c.mix_column-b.ensures, c.mix_column-c.ensures, c.mix_column-d.ensures)
