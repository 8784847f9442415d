-- What the fields of an event's line may be: the ranges of its row in the table.
use Rattle.std.specs.Prelude.{◌≡◌}
use Rattle.events.specs.Events.{PlainEvent}
use Rattle.events.specs.EventTable.{EventFields, Whole, Then, EventRow}
use Rattle.events.specs.FilledRows.{FilledRow, Filled, Values, event_of, filled_row}

-- each field is in its range
abbrev pub AreWithinRanges : (fields : EventFields) → Values fields → Type 0
AreWithinRanges (Whole event) values = Unit {0}
AreWithinRanges (Then kind rest) values = kind.range values.0 × AreWithinRanges (rest values.0) values.1

-- a row makes an event of values in their ranges
pub record Makes (row : EventRow) (values : Values row.fields) (event : PlainEvent) : Type 0 where
  pub ranges : AreWithinRanges row.fields values
  pub made : event_of row.fields values ≡ event

abbrev pub IsMadeBy : FilledRow → PlainEvent → Type 0
IsMadeBy (Filled row values) event = Makes row values event

-- An event has a line: its row makes it of values in their ranges.
abbrev pub Fits : PlainEvent → Type 0
Fits event = IsMadeBy (filled_row event) event
