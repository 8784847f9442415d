use Rattle.std.proofs.Common.{false, sym, subst}
use Rattle.ike_values.specs.Validity.{AreValid}
use Rattle.ike_values.proofs.SpellingLaws.{spelled_is_valid}
use Rattle.ike_encoding.proofs.length.fits_message.Goals as goal

pub chain_len-requires : goal.chain_len-requires
chain_len-requires c = subst (AreValid false) (sym c.as_slice.ensures) (spelled_is_valid c.args.payloads.now c.requires)
