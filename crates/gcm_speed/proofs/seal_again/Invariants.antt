use Rattle.std.proofs.Common.{◌≡◌}
use Rattle.gcm_speed.specs.declared.TheConstants.{NAME}
use Rattle.gcm_speed.proofs.seal_again.Given as goal

abbrev pub invariant-loop-turn : goal.invariant-loop-turn
invariant-loop-turn l = l.lot.name ≡ NAME
