use Rattle.std.proofs.Common.{◌-◌, ◌∷◌, [], ap, arith}
use Rattle.aes_gcm.specs.Aes.{round_constant}
use Rattle.aes_gcm.proofs.Schedules.{powers_are}
use Rattle.aes_gcm.proofs.expansion.round_constant.Goals as goal

pub returns : goal.returns
unfolding round_constant
returns c = ap (λ x. x ∷ 0 ∷ 0 ∷ 0 ∷ []) (powers_are (c.args.j - 1) (omega arith))
