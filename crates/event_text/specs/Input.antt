-- The events that an input spells, up to its first fault.
use Rattle.std.specs.Prelude.{ℕ, ◌+◌, ◌==◌, List, [], ◌∷◌, length, codes, Option, Some, None, Result, Ok, Err, if◌then◌else◌}
use Rattle.std.specs.Str.{bytes_eq}
use Rattle.ha_base.specs.declared.outside.Moment.{Moment}
use Rattle.line_fields.specs.declared.fault.LineFault.{LineFault}
use Rattle.line_fields.specs.declared.fault.LineReason.TheVariants as reasons
use Rattle.input_lines.specs.declared.fault.InputFault.{InputFault}
use Rattle.event_text.specs.declared.input.TheConstants.{MAX_EVENTS}
use Rattle.event_text.specs.declared.place.Place.{Place}
use Rattle.input_lines.specs.Lines.{is_passed, lines_of, without_line_feed}
use Rattle.input_lines.specs.Limits.{Left, overlong, unless_fault}
use Rattle.events.specs.declared.event.Event.{Event}
use Rattle.events.specs.Events.{PlainEvent, plain}
use Rattle.line_fields.specs.Fields.{fault_at}
use Rattle.event_text.specs.Reading.{line_at}

-- what an input says: its events up to its first fault, and the fault
pub record Contents : Type 0 where
  pub events : List (Moment × PlainEvent)
  pub fault : Option InputFault

abbrev pub faulty_contents : ℕ → LineFault → Contents
faulty_contents line f =
    record {
      events = [];
      fault = Some (record {
        line = line;
        column = f.column;
        reason = f.reason;
      });
    }

abbrev pub with_event : Moment × PlainEvent → Contents → Contents
with_event x rest = record { events = x ∷ rest.events; fault = rest.fault }

-- what a line gave, seen as what it says
abbrev pub plain_event_of : Option (Moment × Event) → Option (Moment × PlainEvent)
plain_event_of None = None
plain_event_of (Some x) = Some (x.0, plain x.1)

abbrev pub some_event : Result (Moment × PlainEvent) LineFault
    → Result (Option (Moment × PlainEvent)) LineFault
some_event (Ok x) = Ok (Some x)
some_event (Err f) = Err f

-- the event of a line behind as many and behind a moment, if the line is not passed over
abbrev pub event_behind : ℕ → Moment → List ℕ → Result (Option (Moment × PlainEvent)) LineFault
event_behind count last line =
    if is_passed line then Ok None
    else if count == MAX_EVENTS then Err (fault_at 1 reasons.TooMany)
    else some_event (line_at last.0 line)

-- the event of a line at a place, if the line is not passed over
unfoldable pub event_in : Place → ℕ → List ℕ → Result (Option (Moment × PlainEvent)) LineFault
event_in p octets line =
    unless_fault (overlong p.before octets (length line)) (event_behind p.count p.last line)

abbrev pub events_counted : ℕ → Option (Moment × PlainEvent) → ℕ
events_counted count None = count
events_counted count (Some x) = count + 1

abbrev pub moment_behind : Moment → Option (Moment × PlainEvent) → Moment
moment_behind last None = last
moment_behind last (Some x) = x.0

-- the place behind a line of some octets, and its event, if it has one
abbrev pub behind_line : Place → ℕ → Option (Moment × PlainEvent) → Place
behind_line p octets event =
    record {
      line = p.line + 1;
      before = p.before + octets;
      count = events_counted p.count event;
      last = moment_behind p.last event;
    }

abbrev pub with_events : Option (Moment × PlainEvent) → Contents → Contents
with_events None rest = rest
with_events (Some x) rest = with_event x rest

abbrev pub on_line : ℕ → Result (Option (Moment × PlainEvent)) LineFault
    → (Option (Moment × PlainEvent) → Contents) → Contents
on_line line (Err f) rest = faulty_contents line f
on_line line (Ok event) rest = with_events event (rest event)

-- what lines say from a place on
unfoldable pub contents_at : List (List ℕ) → Place → Contents
contents_at [] p = record { events = []; fault = None }
contents_at (line ∷ lines) p =
    on_line p.line (event_in p (length line) (without_line_feed line))
    (λ event. contents_at lines (behind_line p (length line) event))

-- the version line, which is first
abbrev pub version_of : List ℕ → Result Unit LineFault
version_of line = if bytes_eq line (codes "ha 1") then Ok tt else Err (fault_at 1 reasons.Word)

unfoldable pub version_in : ℕ → List ℕ → Result Unit LineFault
version_in octets line = unless_fault (overlong 0 octets (length line)) (version_of line)

abbrev pub on_version : Result Unit LineFault → Contents → Contents
on_version (Err f) rest = faulty_contents 1 f
on_version (Ok x) rest = rest

-- the place behind the version line
abbrev pub second_line : ℕ → Place
second_line octets = record { line = 2; before = octets; count = 0; last = record { 0 = 0 } }

abbrev pub contents_in : List (List ℕ) → Contents
contents_in [] = faulty_contents 1 (fault_at 1 reasons.Missing)
contents_in (line ∷ lines) =
    on_version (version_in (length line) (without_line_feed line))
    (contents_at lines (second_line (length line)))

-- What an input says. Its first line is `ha 1`, and each other line that is not passed over is an
-- event.
abbrev pub contents_of : List ℕ → Contents
contents_of input = contents_in (lines_of input)

-- what is left of an input says
abbrev pub left_contents : Left Place → Contents
left_contents left = contents_at left.lines left.place
