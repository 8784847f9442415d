use Rattle.std.proofs.Common.{arith}
use Rattle.std.proofs.lemmas.List.Elements.{All-from_get_or}
use Rattle.report_text.specs.LineRanges.{IsReportNumber}
use Rattle.report_text.proofs.ranges.numbers_fit.Goals as goal

pub returns : goal.returns
returns c = All-from_get_or IsReportNumber c.args.numbers.now 0 (λ i lt. omega (arith, c.type_inv.numbers i))
