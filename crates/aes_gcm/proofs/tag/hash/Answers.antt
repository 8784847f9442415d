use Rattle.std.proofs.Common.{◌≡◌, ap, length}
use Rattle.std.specs.Prelude.{slice_index}
use Rattle.aes_gcm.specs.Gcm.{block_count}
use Rattle.aes_gcm.proofs.Hashing.{hashed_text_is}
use Rattle.aes_gcm.proofs.tag.hash.Goals as goal

pub returns : goal.returns
unfolding block_count
returns c =
    let one : block_count (length c.length_block.result) ≡ 1 = ap (λ xs. block_count (length xs)) c.length_block.ensures in
    cc (one, hashed_text_is (slice_index c.args.tables.now 8) c.args.aad.now c.args.ciphertext.now, c.hash_onto-2.ensures, c.hash_onto-hashed.ensures, c.hash_onto.ensures, c.length_block.ensures)
