use Rattle.event_text.proofs.WholeReads.{fault_read, line_read}
use Rattle.event_text.proofs.laws.pieces_tell_contents.Goals as goal

pub returns-clause-goes_on : goal.returns-clause-goes_on
returns-clause-goes_on c = line_read

pub returns-clause-faults : goal.returns-clause-faults
returns-clause-faults c = fault_read
