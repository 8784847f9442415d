use Rattle.report_text.proofs.LineReading.{one_line}
use Rattle.report_text.proofs.laws.words_tell_their_line.Goals as goal

pub returns : goal.returns
returns c = one_line
