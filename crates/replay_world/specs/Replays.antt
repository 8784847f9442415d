-- What a call does, by what its words ask for.
use Rattle.std.specs.Prelude.{Option, Some, None}
use Rattle.call_ends.specs.Endings.{Declines, Ends}
use Rattle.call_ends.specs.Jobs.{Job}
use Rattle.call_ends.specs.Outside.{Outside}
use Rattle.call_ends.specs.Streaming.{streaming}
use Rattle.call_ends.specs.declared.status.Status.{Status}
use Rattle.replay_world.specs.Handed.{Handed, running}
use Rattle.replay_world.specs.declared.top.Command.{Command}
use Rattle.replay_world.specs.declared.top.Command.TheVariants.{Run, Show}
use Rattle.show_messages.specs.Showing.{showing}

-- what each command makes of its input
abbrev pub job_of : Handed → Command → Job
job_of run Run = streaming (running run)
job_of run Show = streaming showing

-- how a call ends: its words ask for a command, or for none
abbrev pub Replays : Option Command → Handed → Outside → Outside → Status → Type 0
Replays None run old new status = Declines old new status
Replays (Some command) run old new status = Ends (job_of run command) old new status
