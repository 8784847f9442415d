-- A command that takes its input line by line, and writes the output of each line before it takes
-- the next.
use Rattle.std.specs.Prelude.{ℕ, ◌≡◌, List, [], ◌++◌, Option, Some, None, Result, Ok, Err, true, codes}
use Rattle.std.specs.List.{list_all}
use Rattle.input_lines.specs.Faults.{fault_line}
use Rattle.input_lines.specs.Lines.{no_feed, with_line_feeds}
use Rattle.input_lines.specs.declared.fault.InputFault.{InputFault}
use Rattle.call_ends.specs.Closing.{Names}
use Rattle.call_ends.specs.Endings.{BreaksOff, Finishes}
use Rattle.call_ends.specs.Jobs.{IsBounded, Job}
use Rattle.call_ends.specs.Outside.{AnyFault, NoneFailed, Outside, SaysLine, Stream}
use Rattle.call_ends.specs.declared.status.Status.{Status}
use Rattle.call_ends.specs.declared.status.Status.TheVariants as status
use Rattle.call_ends.specs.declared.streaming.Stop.{Stop}
use Rattle.call_ends.specs.declared.streaming.Stop.TheVariants as stop

-- What such a command makes of an input: `Makes` is of the whole input, of its first fault, and of
-- the whole output; `Begins` is of the status at which the call breaks off, of the whole input, and
-- of what was written by then; `Works` is of whole lines without a fault, and of what was written
-- once all of them were worked.
pub record Streaming : Type 1 where
  pub Makes : List ℕ → Option InputFault → List ℕ → Type 0
  pub Begins : Status → List ℕ → List ℕ → Type 0
  pub Works : List ℕ → List ℕ → Type 0

-- An input without a fault was read to its end, and any other to its fault at least.
pub record IsReadOn (fault : Option InputFault) (input more : List ℕ) : Type 0 where
  pub whole : fault ≡ None → more ≡ []
  pub bounded : IsBounded input

-- The octets that were read are whole lines, all of which were worked, and the front of one more.
pub record WorksWhole (Works : List ℕ → List ℕ → Type 0) (input output : List ℕ) : Type 0 where
  pub lines : List (List ℕ)
  pub tail : List ℕ
  pub parts : input ≡ with_line_feeds lines ++ tail
  pub feedless : list_all no_feed tail ≡ true
  pub works : Works (with_line_feeds lines) output

-- what was written by the time that the call breaks off
abbrev pub BeginsLines : Streaming → Status → (input more output : List ℕ) → Type 0
BeginsLines s status.ReadFault input more output =
    IsBounded input × s.Begins status.ReadFault (input ++ more) output × WorksWhole s.Works input output
BeginsLines s broken input more output = IsBounded input × s.Begins broken (input ++ more) output

abbrev pub streaming : Streaming → Job
streaming s = record {
  Fault = InputFault;
  diagnosis = fault_line;
  Makes = λ input more fault output. IsReadOn fault input more × s.Makes (input ++ more) fault output;
  Begins = BeginsLines s;
}

-- how the work on an input ends: it has no fault or this one, or the call breaks off
abbrev pub Streams : Streaming → (old new : Outside) → Result (Option InputFault) Stop → Type 0
Streams s old new (Ok fault) = Finishes (streaming s) old new fault
Streams s old new (Err stop.Memory) =
    BreaksOff (streaming s) status.Memory old new
    × NoneFailed old.input new.input × NoneFailed old.output new.output
Streams s old new (Err stop.ReadFault) =
    BreaksOff (streaming s) status.ReadFault old new
    × AnyFault old.input new.input × NoneFailed old.output new.output
Streams s old new (Err stop.WriteFault) =
    BreaksOff (streaming s) status.WriteFault old new
    × NoneFailed old.input new.input × AnyFault old.output new.output

-- what is said of it on the error output
abbrev pub Says : Result (Option InputFault) Stop → (errors now_errors : Stream) → Status → Type 0
Says (Ok None) errors now_errors status.Done = now_errors ≡ errors
Says (Ok (Some fault)) errors now_errors ended = Names fault errors now_errors ended
Says (Err stop.Memory) errors now_errors status.Memory =
    SaysLine (codes "ha: want of memory\n") errors now_errors
Says (Err stop.ReadFault) errors now_errors status.ReadFault =
    SaysLine (codes "ha: read fault\n") errors now_errors
Says (Err stop.WriteFault) errors now_errors status.WriteFault =
    SaysLine (codes "ha: write fault\n") errors now_errors
Says worked errors now_errors ended = ⊥
