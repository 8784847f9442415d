-- What a reader holds of an event file that comes in pieces, and what taking a line does.
use Rattle.std.specs.Prelude.{◌≡◌, ◌≢◌, ℕ, ◌+◌, ◌<◌, ◌≤◌, ◌==◌, ◌⊎◌, List, [], ◌∷◌, ◌++◌, length, Bool, true, false, Option, Some, None, Result, Ok, Err, if◌then◌else◌}
use Rattle.std.specs.List.{list_all}
use Rattle.std.specs.Io.KnownBytes.{Consumes, IsAtEnd}
use Rattle.ha_base.specs.Faults.{Rose}
use Rattle.ha_base.specs.declared.limits.TheConstants.{INPUT_OCTETS, NUMBER_END, PIECE_OCTETS}
use Rattle.ha_base.specs.declared.outside.Moment.{Moment}
use Rattle.events.specs.Events.{PlainEvent, plain}
use Rattle.events.specs.Ranges.{Fits}
use Rattle.input_lines.specs.Lines.{lines_of, no_feed, with_line_feeds}
use Rattle.input_lines.specs.declared.fault.InputFault.{InputFault}
use Rattle.line_fields.specs.declared.fault.LineFault.{LineFault}
use Rattle.event_text.specs.Input.{Contents, contents_at, contents_of, event_behind, events_counted, version_of, with_events}
use Rattle.event_text.specs.declared.input.TheConstants.{MAX_EVENTS}
use Rattle.event_text.specs.declared.lines.Line.{Line}
use Rattle.event_text.specs.declared.lines.Line.TheVariants as line
use Rattle.event_text.specs.declared.place.Place.{Place}
use Rattle.event_text.specs.declared.read_fault.TakeFault.{TakeFault}
use Rattle.event_text.specs.declared.read_fault.TakeFault.TheVariants as fault

-- a reader: the octets that were read and are not taken, whether the last line was taken without
-- its line feed, and where the next line stands
pub record Reading : Type 0 where
  pub kept : List ℕ
  pub unfed : Bool
  pub place : Place

-- what octets say from a place on; the first line is the version line
abbrev pub contents_from : Place → List ℕ → Contents
contents_from p octets = if p.line == 1 then contents_of octets else contents_at (lines_of octets) p

-- where the version line stands
abbrev pub first_place : Place
first_place = record { line = 1; before = 0; count = 0; last = record { 0 = 0 } }

abbrev pub no_event : Result Unit LineFault → Result (Option (Moment × PlainEvent)) LineFault
no_event (Err f) = Err f
no_event (Ok x) = Ok None

-- the event of the line at a place, if it is not the version line or passed over
abbrev pub event_from : ℕ → ℕ → Moment → List ℕ → Result (Option (Moment × PlainEvent)) LineFault
event_from line count last text =
    if line == 1 then no_event (version_of text) else event_behind count last text

-- why the line of this number gave nothing, unless memory ran out
abbrev pub FailsAt : {A : Type 0} → TakeFault → ℕ → Result A LineFault → Type 0
FailsAt fault.Memory number read = Unit {0}
FailsAt (fault.Input found) number read =
    (f : LineFault) × (read ≡ Err f)
    × (found ≡ record { line = number; column = f.column; reason = f.reason })
FailsAt fault.Source number read = ⊥

-- the event of a line, where it has one
abbrev pub event_of : Line → Option (Moment × PlainEvent)
event_of line.End = None
event_of line.Passed = None
event_of (line.Said now event) = Some (now, plain event)

-- its moment lies in the range of moments
abbrev pub moment_in : Line → Type 0
moment_in (line.Said now event) = now.0 < NUMBER_END
moment_in other = Unit {0}

-- and its fields in theirs
abbrev pub fits_in : Line → Type 0
fits_in (line.Said now event) = Fits (plain event)
fits_in other = Unit {0}

-- a line with its line feed
abbrev pub IsFed : List ℕ → Type 0
IsFed octets = (text : List ℕ) × (octets ≡ text ++ 10 ∷ []) × (list_all no_feed text ≡ true)

-- a reader that stands before the version line has read nothing as a line
abbrev pub IsFresh : Reading → Type 0
IsFresh reading = reading.place.line ≡ 1
    → (reading.place ≡ first_place) × (reading.unfed ≡ false)

-- Nothing stands behind a line that was taken without its line feed.
abbrev pub MayFollow : Reading → List ℕ → Type 0
MayFollow reading more = reading.unfed ≡ true → more ≡ []

-- The next line was taken, with its line feed: of the octets that were kept and of those that were
-- read. What follows says the same from the place behind it on.
pub record TakesLine (old new : Reading) (left still_left : Option (List ℕ)) (said : Line) : Type 0 where
  pub read : List ℕ
  pub line : List ℕ
  pub going : old.unfed ≡ false
  pub consumed : Consumes left still_left read
  pub parts : old.kept ++ read ≡ line ++ new.kept
  pub whole : (IsFed line × (new.unfed ≡ false))
      ⊎ ((new.unfed ≡ true) × (new.kept ≡ []) × IsAtEnd still_left)
  pub some : 0 < length line
  pub says : (more : List ℕ) → MayFollow new more
      → contents_from old.place (line ++ more) ≡ with_events (event_of said) (contents_from new.place more)
  pub before : new.place.before ≡ old.place.before + length line
  pub within : new.place.before ≤ INPUT_OCTETS
  pub kept : length new.kept ≤ PIECE_OCTETS
  pub later : new.place.line ≢ 1
  pub count : new.place.count ≡ events_counted old.place.count (event_of said)
  pub few : new.place.count ≤ MAX_EVENTS

-- no line was left: the input is at its end
pub record TakesEnd (old new : Reading) (left still_left : Option (List ℕ)) : Type 0 where
  pub kept : new.kept ≡ []
  pub says : contents_from old.place [] ≡ record { events = []; fault = None }
  pub ended : ((old.kept ≡ []) × Consumes left still_left [] × IsAtEnd still_left)
      ⊎ ((old.unfed ≡ true) × (still_left ≡ left))

-- octets were read behind those that were kept, not more than an input may have and a piece
pub record ReadsOn (old : Reading) (left still_left : Option (List ℕ)) (read : List ℕ) : Type 0 where
  pub consumed : Consumes left still_left read
  pub bounded : old.place.before + length (old.kept ++ read) ≤ INPUT_OCTETS + PIECE_OCTETS

-- what stands from the place on begins with a fault
pub record FindsFault (old : Reading) (left still_left : Option (List ℕ)) (found : InputFault) : Type 0 where
  pub read : List ℕ
  pub reads : ReadsOn old left still_left read
  pub says : (more : List ℕ) → (IsAtEnd still_left → more ≡ [])
      → contents_from old.place ((old.kept ++ read) ++ more) ≡ record { events = []; fault = Some found }

-- why no line was taken
abbrev pub StopsAt : TakeFault → Reading → (left still_left : Option (List ℕ)) → (faults now_faults : ℕ) → Type 0
StopsAt fault.Memory old left still_left faults now_faults =
    ((read : List ℕ) × ReadsOn old left still_left read) × (old.unfed ≡ false) × (now_faults ≡ faults)
StopsAt (fault.Input found) old left still_left faults now_faults =
    FindsFault old left still_left found × (old.unfed ≡ false) × (now_faults ≡ faults)
StopsAt fault.Source old left still_left faults now_faults =
    ((read : List ℕ) × ReadsOn old left still_left read × (list_all no_feed (old.kept ++ read) ≡ true))
    × (old.unfed ≡ false) × Rose faults now_faults

-- what was taken
abbrev pub Takes : Result Line TakeFault → (old new : Reading) → (left still_left : Option (List ℕ))
    → (faults now_faults : ℕ) → Type 0
Takes (Ok line.End) old new left still_left faults now_faults =
    TakesEnd old new left still_left × (now_faults ≡ faults)
Takes (Ok said) old new left still_left faults now_faults =
    TakesLine old new left still_left said × (now_faults ≡ faults)
Takes (Err why) old new left still_left faults now_faults = StopsAt why old left still_left faults now_faults

-- events, and then what is left of a file
abbrev pub behind_events : List (Moment × PlainEvent) → Contents → Contents
behind_events events rest = record { events = events ++ rest.events; fault = rest.fault }

-- the event of a line, in a list
abbrev pub events_in : Line → List (Moment × PlainEvent)
events_in (line.Said now event) = (now, plain event) ∷ []
events_in other = []

-- A file was read up to here from its beginning: whole lines were taken, which have these events,
-- and some octets are kept.
pub record HasRead (reading : Reading) (left still_left : Option (List ℕ))
    (events : List (Moment × PlainEvent)) : Type 0 where
  pub taken : List ℕ
  pub consumed : Consumes left still_left (taken ++ reading.kept)
  pub whole : ((reading.unfed ≡ false) × (lines : List (List ℕ)) × (taken ≡ with_line_feeds lines))
      ⊎ ((reading.unfed ≡ true) × (reading.kept ≡ []) × IsAtEnd still_left)
  pub says : (more : List ℕ) → MayFollow reading more
      → contents_of (taken ++ more) ≡ behind_events events (contents_from reading.place more)
  pub before : reading.place.before ≡ length taken
  pub kept : length reading.kept ≤ PIECE_OCTETS
  pub fresh : IsFresh reading

-- a reader of which nothing was read
pub record IsNew (reading : Reading) : Type 0 where
  pub kept : reading.kept ≡ []
  pub unfed : reading.unfed ≡ false
  pub place : reading.place ≡ first_place
