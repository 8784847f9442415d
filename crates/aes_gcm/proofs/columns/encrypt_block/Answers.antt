use Rattle.std.proofs.Common.{◌∙◌, ap}
use Rattle.aes_gcm.specs.Aes.{xored, rounds, round_key}
use Rattle.aes_gcm.proofs.columns.encrypt_block.Goals as goal

pub returns : goal.returns
unfolding rounds
returns c =
    c.remaining_rounds.ensures c.args.block.now (c.add_round_key-state.ensures ∙ ap (λ s. xored s (round_key c.args.round_keys.now 0)) c.load.ensures)
