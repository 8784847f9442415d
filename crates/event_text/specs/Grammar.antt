-- The line of an event: its words.
use Rattle.std.specs.Prelude.{◌≡◌, ℕ, ◌<◌, ◌≤◌, List, ◌∷◌, length}
use Rattle.std.specs.Fmt.{decimal}
use Rattle.ha_base.specs.declared.limits.TheConstants.{LINE_OCTETS, NUMBER_END}
use Rattle.ha_base.specs.declared.outside.Moment.{Moment}
use Rattle.line_fields.specs.Words.{line_of}
use Rattle.events.specs.Events.{PlainEvent}
use Rattle.events.specs.FilledRows.{event_words}
use Rattle.events.specs.Ranges.{Fits}

-- the words of a line: the moment in seconds, and the event's
abbrev pub line_words : Moment → PlainEvent → List (List ℕ)
line_words moment event = decimal moment.0 ∷ event_words event

-- The line says this event of this moment, where the moment of the event before is `last`.
pub record EventLine (last : ℕ) (line : List ℕ) (moment : Moment)
    (event : PlainEvent) : Type 0 where
  pub text : line ≡ line_of (line_words moment event)
  pub short : length line ≤ LINE_OCTETS
  pub in_order : last ≤ moment.0
  pub in_range : moment.0 < NUMBER_END
  pub fits : Fits event
