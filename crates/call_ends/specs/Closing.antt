-- How the fault of an input is named, by the error output before and after.
use Rattle.std.specs.Prelude.{codes}
use Rattle.input_lines.specs.Faults.{fault_line}
use Rattle.input_lines.specs.declared.fault.InputFault.{InputFault}
use Rattle.call_ends.specs.Outside.{AnyFault, SaysLine, Stream, WritesAll, WritesFront}
use Rattle.call_ends.specs.declared.status.Status.{Status}
use Rattle.call_ends.specs.declared.status.Status.TheVariants as status

-- how the fault of an input is named
abbrev pub Names : InputFault → (errors now_errors : Stream) → Status → Type 0
Names fault errors now_errors status.FaultyLine = WritesAll (fault_line fault) errors now_errors
Names fault errors now_errors status.Memory = SaysLine (codes "ha: want of memory\n") errors now_errors
Names fault errors now_errors status.WriteFault =
    AnyFault errors now_errors × WritesFront (fault_line fault) errors now_errors
Names fault errors now_errors other = ⊥
