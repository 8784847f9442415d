-- The messages that an input holds, up to its first fault: one a line, in hexadecimal.
use Rattle.std.specs.Prelude.{ℕ, ◌+◌, ◌==◌, List, [], ◌∷◌, length, Option, Some, None, Result, Ok, Err, if◌then◌else◌}
use Rattle.input_lines.specs.Limits.{overlong, unless_fault}
use Rattle.input_lines.specs.Lines.{is_passed, lines_of, without_line_feed}
use Rattle.line_fields.specs.Octets.{decoded, is_hex}
use Rattle.line_fields.specs.Fields.{fault_at}
use Rattle.line_fields.specs.declared.fault.LineFault.{LineFault}
use Rattle.line_fields.specs.declared.fault.LineReason.TheVariants as reasons
use Rattle.input_lines.specs.declared.fault.InputFault.{InputFault}
use Rattle.show_messages.specs.declared.lines.Place.{Place}

-- what an input holds: the octets of its messages in their order up to its first fault, and the
-- fault
pub record Messages : Type 0 where
  pub messages : List (List ℕ)
  pub fault : Option InputFault

abbrev pub faulty_messages : ℕ → LineFault → Messages
faulty_messages line f = record {
  messages = [];
  fault = Some
      (record { line = line; column = f.column; reason = f.reason });
}

abbrev pub with_message : List ℕ → Messages → Messages
with_message message rest = record { messages = message ∷ rest.messages; fault = rest.fault }

-- the message of a line, where some are before it
abbrev pub message_in : ℕ → List ℕ → Result (Option (List ℕ)) LineFault
message_in count line =
    if count == 100000 then Err (fault_at 1 reasons.TooMany)
    else if is_hex line then Ok (Some (decoded line))
    else Err (fault_at 1 reasons.Hex)

-- the same, where the line is not passed over
abbrev pub message_behind : ℕ → List ℕ → Result (Option (List ℕ)) LineFault
message_behind count line = if is_passed line then Ok None else message_in count line

-- the message of a line at a place, where it is not passed over
unfoldable pub line_in : Place → ℕ → List ℕ → Result (Option (List ℕ)) LineFault
line_in p octets line =
    unless_fault (overlong p.before octets (length line)) (message_behind p.count line)

-- the place behind a line of some octets, where there are so many messages before it
abbrev pub behind_message_line : Place → ℕ → ℕ → Place
behind_message_line p octets count = record {
  line = p.line + 1;
  before = p.before + octets;
  count = count;
}

abbrev pub on_message_line : Place → Result (Option (List ℕ)) LineFault → (ℕ → Messages) → Messages
on_message_line p (Err f) rest = faulty_messages p.line f
on_message_line p (Ok None) rest = rest p.count
on_message_line p (Ok (Some message)) rest = with_message message (rest (p.count + 1))

-- what lines hold from a place on
unfoldable pub messages_at : List (List ℕ) → Place → Messages
messages_at [] p = record { messages = []; fault = None }
messages_at (line ∷ lines) p = on_message_line p (line_in p (length line) (without_line_feed line))
    (λ count. messages_at lines (behind_message_line p (length line) count))

-- what an input holds
abbrev pub messages_of : List ℕ → Messages
messages_of input = messages_at (lines_of input) (record { line = 1; before = 0; count = 0 })
