-- Reading a line from left to right, with the first fault that is met.
use Rattle.std.specs.Prelude.{ℕ, ◌+◌, nat_lt, List, length, Result, Ok, Err, if◌then◌else◌}
use Rattle.ha_base.specs.declared.limits.TheConstants.{LINE_OCTETS, NUMBER_END}
use Rattle.ha_base.specs.declared.outside.Moment.{Moment}
use Rattle.line_fields.specs.declared.fault.LineReason.TheVariants as reasons
use Rattle.line_fields.specs.declared.fault.LineFault.{LineFault}
use Rattle.line_fields.specs.Words.{Cursor, words_of}
use Rattle.line_fields.specs.Numbers.{number_in_word}
use Rattle.line_fields.specs.Fields.{◌>>=◌, ended_at, fault_at, field, word_at}
use Rattle.events.specs.Events.{PlainEvent}
use Rattle.events.specs.EventTable.{event_table, read_row}

unfoldable pub event_at : Cursor → Result (PlainEvent × Cursor) LineFault
event_at s = do
  w ← word_at s
  read_row event_table s.column w.0 w.1

-- ---- a line

abbrev pub not_before : ℕ → ℕ → ℕ × Cursor → Result (ℕ × Cursor) LineFault
not_before c last n = if nat_lt n.0 last then Err (fault_at c reasons.ClockBack) else Ok n

-- a moment in seconds, which is not before the last one
unfoldable pub moment_at : ℕ → Cursor → Result (ℕ × Cursor) LineFault
moment_at last s = do
  n ← field (number_in_word 0 NUMBER_END) s
  not_before s.column last n

unfoldable pub moment_and_event_at : ℕ → Cursor → Result (Moment × PlainEvent) LineFault
moment_and_event_at last s = do
  seconds ← moment_at last s
  event ← event_at seconds.1
  ended ← ended_at event.1
  Ok (record { 0 = seconds.0 }, event.0)

-- What a line says after an event of the moment `last`, or its first fault.
unfoldable pub line_at : ℕ → List ℕ → Result (Moment × PlainEvent) LineFault
line_at last line =
    if nat_lt LINE_OCTETS (length line) then Err (fault_at (LINE_OCTETS + 1) reasons.LineTooLong)
    else moment_and_event_at last (record { column = 1; words = words_of line })
