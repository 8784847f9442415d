use Rattle.std.proofs.Common.{arith}
use Rattle.report_text.proofs.RangeLaws.{all_append, event_alone}
use Rattle.report_text.proofs.ranges.turn_lines_fit.Goals as goal

pub returns : goal.returns
returns c =
    λ last line says. (
      (omega arith, event_alone last line _ _ says),
      all_append _ _ c.calls_fit.ensures (all_append _ _ c.served_fits.ensures (all_append _ _ c.seals_fit.ensures (all_append _ _ c.given_fits.ensures (c.verdict_fits.ensures, tt)))),
    )
