use Rattle.std.proofs.Common.{◌∙◌}
use Rattle.aes_gcm.specs.Gcm.{tag_of, tag_under}
use Rattle.aes_gcm.proofs.HeldKeys.{under_is, size_is}
use Rattle.aes_gcm.proofs.Key.tag.Goals as goal

pub returns-clause-tag : goal.returns-clause-tag
unfolding tag_of
returns-clause-tag c =
    let under = under_is c.self.inside c.args.self.now c.self.view_is c.self.told.1 c.self.invariant in
    c.tag.ensures ∙ (λ i. tag_under (under i) (c.nonce-nonce.ensures i) c.args.aad.now c.args.ciphertext.now)

pub returns-clause-key_size : goal.returns-clause-key_size
returns-clause-key_size c = size_is c.self.inside c.args.self.now c.self.view_is c.self.told.1 c.self.invariant c.self.told.0
