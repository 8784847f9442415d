-- The text of messages.
use Rattle.std.specs.Prelude.{ℕ, List, ◌++◌, length}
use Rattle.std.specs.List.{flat_map}
use Rattle.word_text.specs.Ends.{end_line}
use Rattle.message_text.specs.Shown.{shown}

-- the text of each message, and the line of their number
abbrev pub shown_all : List (List ℕ) → List ℕ
shown_all messages = flat_map shown messages ++ end_line (length messages)
