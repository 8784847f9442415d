-- Each command's row is that of its own call.
use Rattle.std.proofs.Common.{sym}
use Rattle.replay_world.proofs.top.replay.Goals as goal

pub returns-in-Some-Run-clause-ends : goal.returns-in-Some-Run-clause-ends
returns-in-Some-Run-clause-ends g c = rw (sym c.in-Some-Run.ensures, c.in-Some-Run.field-0-is) c.run_command.ensures.ends

pub returns-clause-ends : goal.returns-clause-ends
returns-clause-ends g c = rw (sym c.in-Some-Show.ensures, c.in-Some-Show.field-0-is) c.show_command.ensures.ends
