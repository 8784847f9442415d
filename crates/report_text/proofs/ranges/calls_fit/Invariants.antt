use Rattle.std.proofs.Common.{take}
use Rattle.std.specs.List.{AllByRecursion, flat_map}
use Rattle.std.specs.Prelude.{option_to_list}
use Rattle.report_text.specs.LineRanges.{FitsLine}
use Rattle.report_text.specs.TurnLines.{keep_line}
use Rattle.report_text.proofs.ranges.calls_fit.Given as goal

abbrev pub invariant-loop-at : goal.invariant-loop-at
invariant-loop-at l = AllByRecursion FitsLine (flat_map (λ x. option_to_list (keep_line x)) (take l.at l.calls))
