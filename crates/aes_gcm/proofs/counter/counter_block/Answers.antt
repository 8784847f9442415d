use Rattle.std.proofs.Common.{◌∙◌, ◌∷◌, [], ◌++◌, refl}
use Rattle.aes_gcm.specs.Gcm.{counter_block}
use Rattle.aes_gcm.proofs.Lists.{two_parts}
use Rattle.aes_gcm.proofs.counter.counter_block.Goals as goal

pub returns : goal.returns
unfolding counter_block
returns c =
    two_parts 12 4 c.copy_from_slice.new.self (0 ∷ 0 ∷ 0 ∷ 0 ∷ []) c.copy_from_slice-2.new.self c.copy_from_slice.ensures.len refl
    ∙ (λ i. c.copy_from_slice.ensures.after i ++ (c.copy_from_slice-2.ensures.after ∙ c.to_be_bytes.ensures) i)
