use Rattle.std.proofs.Common.{◌∙◌, ◌++◌, ◌∷◌, [], ap, get_or, sym}
use Rattle.std.specs.Int.{w32, to_le_bytes}
use Rattle.std.specs.Int.Bits.{bit_xor, xor_zero_r}
use Rattle.aes_gcm.specs.Aes.{xored}
use Rattle.aes_gcm.specs.Columns.{column_octets, from_last_octets, from_row_2, from_row_3}
use Rattle.aes_gcm.proofs.WordRounds.{words_of_xor}
use Rattle.aes_gcm.proofs.first_round.toggle_last_octets.Goals as goal

pub returns : goal.returns
unfolding column_octets from_last_octets from_row_2 from_row_3
returns c =
    let s = c.args.s.now in
    let zeros = 0 ∷ 0 ∷ 0 ∷ 0 ∷ [] in
    (λ i. to_le_bytes w32 (bit_xor (get_or s 0 0) c.row_3.result) ++ to_le_bytes w32 (bit_xor (get_or s 1 0) c.row_2.result) ++ to_le_bytes w32 (sym (xor_zero_r (get_or s 2 0)) i) ++ to_le_bytes w32 (sym (xor_zero_r (get_or s 3 0)) i))
    ∙ words_of_xor (get_or s 0 0) (get_or s 1 0) (get_or s 2 0) (get_or s 3 0) c.row_3.result c.row_2.result 0 0
    ∙ ap (xored (column_octets s)) (λ i. c.row_3.ensures i ++ c.row_2.ensures i ++ zeros ++ zeros)
