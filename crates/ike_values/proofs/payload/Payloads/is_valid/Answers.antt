use Rattle.std.proofs.Common.{false, sym, subst}
use Rattle.ike_values.specs.Validity.{AreValid}
use Rattle.ike_values.proofs.SpellingLaws.{valid_has_spelling, spelled_is_valid}
use Rattle.ike_values.proofs.payload.Payloads.is_valid.Goals as goal

pub returns : goal.returns
returns c =
    let payloads = c.args.self.now in (
      λ t. valid_has_spelling payloads (subst (AreValid false) c.as_slice.ensures (c.fits_chain.ensures.0 t)),
      λ s. c.fits_chain.ensures.1 (subst (AreValid false) (sym c.as_slice.ensures) (spelled_is_valid payloads s)),
    )
