use Rattle.event_text.proofs.LineLaws.{line_takes, no_fault, one_event}
use Rattle.event_text.proofs.reading.read_line.Goals as goal

pub returns-in-Ok-clause-found : goal.returns-in-Ok-clause-found
returns-in-Ok-clause-found c = line_takes _ _ _ c.in-Ok.ensures

pub returns-in-Ok-clause-fits : goal.returns-in-Ok-clause-fits
returns-in-Ok-clause-fits c = let said = line_takes _ _ _ c.in-Ok.ensures in said.fits

pub returns-in-Ok-clause-only : goal.returns-in-Ok-clause-only
returns-in-Ok-clause-only c = λ m e h. one_event _ _ _ m _ e c.in-Ok.ensures h

pub returns-in-Err-Line-clause-only : goal.returns-in-Err-Line-clause-only
returns-in-Err-Line-clause-only c = λ m e h. absurd (no_fault c.args.last.0 c.args.line.now c.in-Err-Line.fault m e (rw c.in-Err-Line.field-0-is at c.in-Err-Line.ensures) h)
