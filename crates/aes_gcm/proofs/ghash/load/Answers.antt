use Rattle.std.proofs.Common.{◌∙◌, ◌++◌, ℕ, length}
use Rattle.std.proofs.lemmas.List.{drop-replicate}
use Rattle.aes_gcm.specs.Gcm.{element}
use Rattle.aes_gcm.proofs.ghash.load.Goals as goal

pub returns : goal.returns
unfolding element
returns c =
    c.from_be_bytes.ensures ∙ (λ i. element (c.copy_from_slice.ensures.after i ++ drop-replicate {X = ℕ} (length c.args.octets.now) 16 0 i))
