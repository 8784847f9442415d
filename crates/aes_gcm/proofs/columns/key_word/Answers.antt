use Rattle.std.proofs.Common.{◌∙◌, ◌+◌, ◌*◌, get_or, arith}
use Rattle.aes_gcm.proofs.WordRounds.{octets_of_word, word_places}
use Rattle.aes_gcm.proofs.columns.key_word.Goals as goal

pub returns : goal.returns
returns c =
    let w = c.args.words.now in
    let i = c.args.i in
    octets_of_word (get_or w (4 * i) 0) (get_or w (4 * i + 1) 0) (get_or w (4 * i + 2) 0) (get_or w (4 * i + 3) 0) c.from_le_bytes.result (c.fits-words (4 * i)) (c.fits-words (4 * i + 1)) (c.fits-words (4 * i + 2)) (c.fits-words (4 * i + 3)) c.from_le_bytes.ensures
    ∙ word_places w i (omega arith)
