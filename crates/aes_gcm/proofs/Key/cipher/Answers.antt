use Rattle.std.proofs.Common.{◌∙◌, ap}
use Rattle.aes_gcm.proofs.HeldKeys.{under_is}
use Rattle.aes_gcm.proofs.Key.cipher.Goals as goal

pub returns : goal.returns
returns c =
    let under = under_is c.self.inside c.args.self.now c.self.view_is c.self.told.1 c.self.invariant in
    c.encrypt.ensures ∙ ap (λ f. f c.args.block) under
