use Rattle.std.proofs.Common.{◌≡◌, ◌-◌, ◌*◌, take}
use Rattle.aes_gcm.specs.Aes.{expanded}
use Rattle.aes_gcm.proofs.expansion.expand.Given as goal

abbrev pub invariant-loop-i : goal.invariant-loop-i
invariant-loop-i l = take (4 * l.i) l.words ≡ expanded l.key l.nk (l.i - l.nk)
