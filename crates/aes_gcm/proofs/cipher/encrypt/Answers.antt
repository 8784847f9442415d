use Rattle.std.proofs.Common.{◌≡◌, ◌∙◌, ap, arith}
use Rattle.aes_gcm.specs.Aes.{xored, cipher, rounds}
use Rattle.aes_gcm.proofs.Rounds.{rounds_more}
use Rattle.aes_gcm.proofs.cipher.encrypt.Goals as goal

pub loop-round-init : goal.loop-round-init
unfolding rounds
loop-round-init c = c.xor_into.ensures ∙ ap (λ k. xored c.args.block k) c.round_key.ensures.key

pub loop-round-preserved : goal.loop-round-preserved
loop-round-preserved c =
    cc (rounds_more c.args.round_keys.now c.args.block c.loop-round.round, c.middle_round-next.ensures, c.round_key-in-loop-round.ensures.key, c.loop-round.invariant)

pub returns : goal.returns
unfolding cipher
returns c =
    let last : c.loop-round.round ≡ c.args.middle_rounds = omega arith in
    cc (last, c.last_round.ensures, c.round_key-2.ensures.key, c.loop-round.invariant)
