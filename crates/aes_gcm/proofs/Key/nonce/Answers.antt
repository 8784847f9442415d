use Rattle.std.proofs.Common.{◌∙◌, ◌++◌, ◌∷◌, [], refl}
use Rattle.aes_gcm.proofs.Lists.{two_parts}
use Rattle.aes_gcm.proofs.HeldKeys.{nonce_is}
use Rattle.aes_gcm.proofs.Key.nonce.Goals as goal

pub returns : goal.returns
returns c =
    two_parts 4 8 c.copy_from_slice.new.self (0 ∷ 0 ∷ 0 ∷ 0 ∷ 0 ∷ 0 ∷ 0 ∷ 0 ∷ []) c.copy_from_slice-2.new.self c.copy_from_slice.ensures.len refl
    ∙ (λ i. c.copy_from_slice.ensures.after i ++ (c.copy_from_slice-2.ensures.after ∙ c.to_be_bytes.ensures) i)
    ∙ nonce_is c.self.inside c.args.self.now c.self.view_is c.self.told.1 c.self.invariant c.args.iv
