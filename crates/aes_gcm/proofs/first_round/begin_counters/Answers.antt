use Rattle.std.proofs.Common.{◌∙◌, ℕ, ◌^◌, ◌<◌, ap}
use Rattle.std.specs.Prelude.{slice_index}
use Rattle.aes_gcm.specs.Aes.{xored, round_key, rounds, mix_columns, shift_rows, sub_bytes}
use Rattle.aes_gcm.specs.Columns.{column_octets, from_last_octets}
use Rattle.aes_gcm.proofs.FirstRounds.{begun_is}
use Rattle.aes_gcm.proofs.first_round.begin_counters.Goals as goal

pub returns : goal.returns
unfolding rounds
returns c =
    let w = c.args.round_keys.now in
    let state = c.add_round_key-state.ensures ∙ ap (λ s. xored s (round_key w 0)) (c.load.ensures ∙ c.counter_block.ensures) in
    let first = c.middle_round-first.ensures ∙ ap (λ s. xored (mix_columns (shift_rows (sub_bytes s))) (round_key w 1)) state in
    let begun = c.toggle_last_octets.ensures ∙ (λ i. xored (first i) (from_last_octets (slice_index (c.last_column.ensures i) 2) (slice_index (c.last_column.ensures i) 3))) in
    λ (k : ℕ) (h : k < 2 ^ 16). begun_is w c.args.nonce.now (column_octets c.toggle_last_octets.result) c.told-round_keys c.told-nonce begun k h
