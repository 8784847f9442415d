use Rattle.std.proofs.Common.{◌≡◌}
use Rattle.aes_gcm.specs.Aes.{rounds}
use Rattle.aes_gcm.proofs.cipher.encrypt.Given as goal

abbrev pub invariant-loop-round : goal.invariant-loop-round
invariant-loop-round l = l.state ≡ rounds l.round_keys l.fn.block l.round
