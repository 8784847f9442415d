use Rattle.std.proofs.Common.{◌∙◌, ◌++◌, ap, get_or}
use Rattle.aes_gcm.specs.Aes.{xored}
use Rattle.aes_gcm.specs.Columns.{column_octets}
use Rattle.aes_gcm.proofs.WordRounds.{words_of_xor, round_key_words}
use Rattle.aes_gcm.proofs.columns.add_round_key.Goals as goal

pub returns : goal.returns
unfolding column_octets
returns c =
    let s = c.args.s.now in
    words_of_xor (get_or s 0 0) (get_or s 1 0) (get_or s 2 0) (get_or s 3 0) c.key_word.result c.key_word-2.result c.key_word-3.result c.key_word-4.result
    ∙ ap (xored (column_octets s)) ((λ i. c.key_word.ensures i ++ c.key_word-2.ensures i ++ c.key_word-3.ensures i ++ c.key_word-4.ensures i) ∙ round_key_words c.args.round_keys.now c.args.round)
