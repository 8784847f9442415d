use Rattle.std.proofs.Common.{◌∙◌, ◌++◌, ap}
use Rattle.aes_gcm.specs.Aes.{xored, round_key, mix_column, mix_columns, shift_rows, sub_bytes}
use Rattle.aes_gcm.specs.Columns.{column_octets}
use Rattle.aes_gcm.proofs.columns.middle_round.Goals as goal

pub returns : goal.returns
unfolding column_octets mix_column mix_columns shift_rows sub_bytes
returns c =
    c.add_round_key.ensures
    ∙ ap (λ t. xored t (round_key c.args.round_keys.now c.args.round)) (λ i. c.mixed_column.ensures i ++ c.mixed_column-2.ensures i ++ c.mixed_column-3.ensures i ++ c.mixed_column-4.ensures i)
