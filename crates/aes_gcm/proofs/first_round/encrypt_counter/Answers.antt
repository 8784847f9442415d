use Rattle.std.proofs.Common.{◌∙◌, ap}
use Rattle.std.specs.Prelude.{slice_index}
use Rattle.aes_gcm.specs.Aes.{xored}
use Rattle.aes_gcm.specs.Columns.{column_octets, from_last_octets}
use Rattle.aes_gcm.specs.Gcm.{counter_block}
use Rattle.aes_gcm.proofs.first_round.encrypt_counter.Goals as goal

pub returns : goal.returns
returns c =
    λ nonce begun.
    c.remaining_rounds.ensures (counter_block nonce c.args.counter) (c.toggle_last_octets-state.ensures ∙ ap (λ xs. xored (column_octets c.args.begun.now) (from_last_octets (slice_index xs 2) (slice_index xs 3))) c.last_column.ensures ∙ begun c.args.counter c.requires.counter)
