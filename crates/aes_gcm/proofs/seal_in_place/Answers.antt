use Rattle.std.proofs.Common.{◌≡◌, ◌∙◌, ap}
use Rattle.aes_gcm.specs.Gcm.{cipher_of, nonce_of, encrypted, sealed, tag_of}
use Rattle.aes_gcm.proofs.seal_in_place.Goals as goal
use Rattle.aes_gcm.proofs.seal_in_place.Goals.{After-tag}

streamed : (c : After-tag) → c.stream_into.new.buf ≡ encrypted (cipher_of c.args.key.now.octets) (nonce_of c.args.key.now.octets c.args.number.value) c.args.buf.now
streamed c =
    let octets = c.args.key.now.octets in
    c.stream_into.ensures.streamed ∙ ap (λ iv. encrypted (cipher_of octets) (nonce_of octets iv) c.args.buf.now) c.value-iv.ensures

pub returns-clause-ciphertext : goal.returns-clause-ciphertext
unfolding sealed
returns-clause-ciphertext c = streamed c

pub returns-clause-tag : goal.returns-clause-tag
unfolding sealed
returns-clause-tag c =
    c.tag.ensures.tag ∙ (λ i. tag_of c.args.key.now.octets (c.value-iv.ensures i) c.args.aad.now (streamed c i))
