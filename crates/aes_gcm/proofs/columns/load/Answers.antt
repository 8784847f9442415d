use Rattle.std.proofs.Common.{◌∙◌, ◌++◌, get_or, sym}
use Rattle.aes_gcm.specs.Columns.{column_octets}
use Rattle.aes_gcm.proofs.WordRounds.{octets_of_word, spelled}
use Rattle.aes_gcm.proofs.columns.load.Goals as goal

pub returns : goal.returns
unfolding column_octets
returns c =
    let b = c.args.block.now in
    let first =
    octets_of_word (get_or b 0 0) (get_or b 1 0) (get_or b 2 0) (get_or b 3 0) c.from_le_bytes.result (c.fits-block 0) (c.fits-block 1) (c.fits-block 2) (c.fits-block 3) c.from_le_bytes.ensures in
    let second =
    octets_of_word (get_or b 4 0) (get_or b 5 0) (get_or b 6 0) (get_or b 7 0) c.from_le_bytes-2.result (c.fits-block 4) (c.fits-block 5) (c.fits-block 6) (c.fits-block 7) c.from_le_bytes-2.ensures in
    let third =
    octets_of_word (get_or b 8 0) (get_or b 9 0) (get_or b 10 0) (get_or b 11 0) c.from_le_bytes-3.result (c.fits-block 8) (c.fits-block 9) (c.fits-block 10) (c.fits-block 11) c.from_le_bytes-3.ensures in
    let fourth =
    octets_of_word (get_or b 12 0) (get_or b 13 0) (get_or b 14 0) (get_or b 15 0) c.from_le_bytes-4.result (c.fits-block 12) (c.fits-block 13) (c.fits-block 14) (c.fits-block 15) c.from_le_bytes-4.ensures in
    (λ i. first i ++ second i ++ third i ++ fourth i) ∙ sym (spelled 16 b c.told-block)
