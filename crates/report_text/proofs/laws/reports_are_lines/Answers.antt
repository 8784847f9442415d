use Rattle.report_text.proofs.WritingLaws.{report_parts}
use Rattle.report_text.proofs.laws.reports_are_lines.Goals as goal

pub returns : goal.returns
returns c = report_parts
