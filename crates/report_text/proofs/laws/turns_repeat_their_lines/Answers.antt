use Rattle.report_text.proofs.WritingLaws.{turn_line}
use Rattle.report_text.proofs.laws.turns_repeat_their_lines.Goals as goal

pub returns : goal.returns
returns c = turn_line
