-- The numbers of statuses.
use Rattle.std.specs.Prelude.{ℕ}
use Rattle.call_ends.specs.declared.status.Status.{Status}
use Rattle.call_ends.specs.declared.status.Status.TheVariants as status

-- the number that a process ends with
abbrev pub exit_code : Status → ℕ
exit_code status.Done = 0
exit_code status.FaultyLine = 1
exit_code status.Words = 2
exit_code status.Memory = 3
exit_code status.ReadFault = 4
exit_code status.WriteFault = 5
