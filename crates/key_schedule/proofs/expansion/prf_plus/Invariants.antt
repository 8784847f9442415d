use Rattle.std.proofs.Common.{◌≡◌, ◌*◌, take, min}
use Rattle.key_schedule.specs.PrfPlus.{block, blocks}
use Rattle.key_schedule.proofs.expansion.prf_plus.Given as goal

abbrev pub invariant-pieces : goal.invariant-pieces
invariant-pieces l = record {
  written : take (32 * l.i) l.out ≡ take l.len (blocks l.key l.seed l.i);
  previous : take (min (32 * l.i) 32) l.block ≡ block l.key l.seed l.i;
}
