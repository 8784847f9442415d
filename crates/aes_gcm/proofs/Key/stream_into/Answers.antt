use Rattle.std.proofs.Common.{◌∙◌}
use Rattle.aes_gcm.specs.Gcm.{cipher_of, counter_block, encrypted, nonce_of}
use Rattle.aes_gcm.proofs.Streams.{encrypted_twice}
use Rattle.aes_gcm.proofs.HeldKeys.{under_is, length-under}
use Rattle.aes_gcm.proofs.Key.stream_into.Goals as goal

pub returns-clause-streamed : goal.returns-clause-streamed
returns-clause-streamed c =
    let under = under_is c.self.inside c.args.self.now c.self.view_is c.self.told.1 c.self.invariant in
    c.apply_key_stream.ensures ∙ (λ i. encrypted (under i) (c.nonce.ensures i) c.args.buf.now)

pub returns-clause-inverse : goal.returns-clause-inverse
returns-clause-inverse c =
    let octets = c.args.self.now.octets in
    let nonce = nonce_of octets c.args.iv in
    let long = length-under c.self.inside c.args.self.now c.self.view_is c.self.told.1 c.self.invariant c.self.told.0 in
    λ text. encrypted_twice (cipher_of octets) nonce text (λ k. long (counter_block nonce k))
