use Rattle.std.proofs.Common.{◌∙◌, ◌++◌, refl}
use Rattle.std.specs.Prelude.{replicate}
use Rattle.aes_gcm.proofs.Lists.{two_parts}
use Rattle.aes_gcm.proofs.counter.two_blocks.Goals as goal

pub returns : goal.returns
returns c =
    λ nonce begun.
    two_parts 16 16 c.copy_from_slice.new.self (replicate 16 0) c.copy_from_slice-2.new.self c.copy_from_slice.ensures.len refl
    ∙ (λ i. (c.copy_from_slice.ensures.after ∙ c.encrypt_counter-first.ensures nonce begun) i ++ (c.copy_from_slice-2.ensures.after ∙ c.encrypt_counter-second.ensures nonce begun) i)
