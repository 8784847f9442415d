use Rattle.std.proofs.Common.{◌∙◌, ap}
use Rattle.std.specs.Int.{w128, to_be_bytes}
use Rattle.aes_gcm.specs.Aes.{xored, cipher}
use Rattle.aes_gcm.specs.Gcm.{ghash, hashed_text, tag_under}
use Rattle.aes_gcm.proofs.tag.tag.Goals as goal

pub returns : goal.returns
unfolding tag_under
returns c =
    let first = c.encrypt_block-tag.ensures ∙ ap (cipher c.args.round_keys.now c.args.middle_rounds) c.counter_block.ensures in
    let hashed = c.hash.ensures ∙ ap (λ h. ghash h (hashed_text c.args.aad.now c.args.ciphertext.now)) c.requires.hash_subkey in
    let last = c.to_be_bytes.ensures ∙ ap (to_be_bytes w128) hashed in
    c.xor_into.ensures ∙ (λ i. xored (first i) (last i))
