use Rattle.std.proofs.Common.{◌≡◌, ℕ, ◌<◌, ◌*◌, ◌/◌, ◌%◌, get_or, length}
use Rattle.aes_gcm.specs.Gcm.{product_low}
use Rattle.aes_gcm.specs.HashTables.{times_power}
use Rattle.aes_gcm.proofs.ghash.hash_tables.Given as goal

abbrev pub invariant-loop-i : goal.invariant-loop-i
invariant-loop-i l = record {
  entries : (j : ℕ) → j < l.i → get_or l.tables j 0 ≡ product_low 4 (j % 16) (times_power (16 * (j / 16)) l.fn.subkey);
  long : length l.tables ≡ 128;
  power_is : l.power ≡ times_power (16 * (l.i / 16)) l.fn.subkey;
}
