-- The text of events: a version line, a line for each event, and lines that are passed over.
use Rattle.std.specs.Prelude.{ℕ, ◌≤◌, List, [], ◌∷◌, length, codes}
use Rattle.std.specs.List.{AllByRecursion, filter}
use Rattle.ha_base.specs.declared.limits.TheConstants.{INPUT_OCTETS}
use Rattle.ha_base.specs.declared.outside.Moment.{Moment}
use Rattle.event_text.specs.declared.input.TheConstants.{MAX_EVENTS}
use Rattle.input_lines.specs.Lines.{IsFile, IsLine, is_said}
use Rattle.events.specs.Events.{PlainEvent}
use Rattle.event_text.specs.Grammar.{EventLine}

-- The lines say these events, one each, where the moment of the event before them is `last`.
abbrev pub SayEvents : ℕ → List (List ℕ) → List (Moment × PlainEvent) → Type 0
SayEvents last [] [] = Unit {0}
SayEvents last (line ∷ lines) (x ∷ xs) = EventLine last line x.0 x.1 × SayEvents x.0.0 lines xs
SayEvents last [] (x ∷ xs) = ⊥
SayEvents last (line ∷ lines) [] = ⊥

-- The octets are an event file of these events: behind the version line each line that is not
-- passed over says one.
pub record EventText (events : List (Moment × PlainEvent)) (octets : List ℕ) : Type 0 where
  pub lines : List (List ℕ)
  pub file : IsFile (codes "ha 1" ∷ lines) octets
  pub are_lines : AllByRecursion IsLine lines
  pub say : SayEvents 0 (filter is_said lines) events
  pub few : length events ≤ MAX_EVENTS
  pub short : length octets ≤ INPUT_OCTETS
