-- What stands before the fault of an event file.
use Rattle.std.specs.Prelude.{◌≡◌, ℕ, ◌+◌, ◌-◌, List, [], ◌++◌, length, take, drop, ◌⊎◌}
use Rattle.ha_base.specs.declared.outside.Moment.{Moment}
use Rattle.events.specs.Events.{PlainEvent}
use Rattle.input_lines.specs.Lines.{lines_of}
use Rattle.event_text.specs.EventFile.{EventText}

-- The octets are the text of these events. No octets are the text of none.
abbrev pub IsTextOf : List (Moment × PlainEvent) → List ℕ → Type 0
IsTextOf events octets = EventText events octets ⊎ ((octets ≡ []) × (events ≡ []))

-- The lines before a line, which is counted from 1, are a text of their own, that of these events.
pub record StandBefore (events : List (Moment × PlainEvent)) (line : ℕ)
    (input : List ℕ) : Type 0 where
  pub front : List ℕ
  pub rest : List ℕ
  pub parts : input ≡ front ++ rest
  pub lines_before : lines_of front ≡ take (line - 1) (lines_of input)
  pub lines_from : lines_of rest ≡ drop (line - 1) (lines_of input)
  pub count : length (lines_of front) + 1 ≡ line
  pub text : IsTextOf events front
