use Rattle.std.proofs.Common.{rules}
use Rattle.std.specs.Prelude.{option_to_list}
use Rattle.report_text.specs.TurnLines.{seal_line}
use Rattle.report_text.proofs.RangeLaws.{fits_one_more}
use Rattle.report_text.proofs.ranges.seals_fit.Goals as goal

pub loop-at-preserved : goal.loop-at-preserved
loop-at-preserved c =
    fits_one_more (λ x. option_to_list (seal_line x)) _ c.loop-at.at _ (search rules) c.loop-at.invariant c.seal_fits.ensures
