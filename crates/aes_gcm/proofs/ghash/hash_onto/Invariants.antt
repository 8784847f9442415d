use Rattle.std.proofs.Common.{◌≡◌}
use Rattle.std.specs.Prelude.{slice_index}
use Rattle.aes_gcm.specs.Gcm.{hashed_from, padded_to_blocks}
use Rattle.aes_gcm.proofs.ghash.hash_onto.Given as goal

abbrev pub invariant-loop-i : goal.invariant-loop-i
invariant-loop-i l = l.sum ≡ hashed_from (slice_index l.tables 8) l.before (padded_to_blocks l.octets) l.i
