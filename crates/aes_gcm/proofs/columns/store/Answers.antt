use Rattle.aes_gcm.specs.Columns.{column_octets}
use Rattle.aes_gcm.proofs.columns.store.Goals as goal

pub returns : goal.returns
unfolding column_octets
returns c = rw (c.to_le_bytes-a.ensures, c.to_le_bytes-b.ensures, c.to_le_bytes-c.ensures, c.to_le_bytes-d.ensures)
