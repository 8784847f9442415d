-- Readers that take memory.
use Rattle.std.specs.Prelude.{◌≡◌, Some, [], Result, Ok, Err}
use Rattle.line_fields.specs.declared.fault.LineFault.{LineFault}
use Rattle.line_fields.specs.Words.{Cursor}
use Rattle.event_text.specs.declared.read_fault.ReadFault.{ReadFault}
use Rattle.event_text.specs.declared.read_fault.ReadFault.TheVariants as faults
use Rattle.event_text.specs.declared.read_fault.EventFault.{EventFault}
use Rattle.event_text.specs.declared.read_fault.EventFault.TheVariants as ends
use Rattle.event_text.specs.Input.{Contents}

-- Why a reader gave nothing is why reading gives nothing, unless memory ran out.
abbrev pub FailsInLine : {Y : Type 0} → ReadFault → Result Y LineFault → Type 0
FailsInLine faults.Memory read = Unit {0}
FailsInLine (faults.Line f) read = read ≡ Err f

-- What a reader gave, seen by view, and what it left are what reading gives, unless memory ran out.
abbrev pub GivesInLine : {X Y : Type 0} → (X → Y) → Result X ReadFault → Cursor
    → Result (Y × Cursor) LineFault → Type 0
GivesInLine view (Ok x) new read = read ≡ Ok (view x, new)
GivesInLine view (Err e) new read = FailsInLine e read

-- Why no event came is the fault at which the input ends, unless memory ran out.
abbrev pub EndsAtFault : EventFault → Contents → Type 0
EndsAtFault ends.Memory contents = Unit {0}
EndsAtFault (ends.Input f) contents = contents ≡ record { events = []; fault = Some f }
