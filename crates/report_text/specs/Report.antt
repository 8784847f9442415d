-- The text of a report.
use Rattle.std.specs.Prelude.{ℕ, ◌+◌, List, [], ◌∷◌, ◌++◌, length, codes, Option, Some, None, option_to_list}
use Rattle.keeper_book.specs.declared.calls.Call.{Call}
use Rattle.events.specs.declared.seals.Seal.{Seal}
use Rattle.events.specs.declared.turn.Datagram.{Datagram}
use Rattle.events.specs.declared.turn.Turn.{Turn}
use Rattle.line_fields.specs.Writing.{line_text}
use Rattle.report_text.specs.Lines.{ReportLine, EndLine}
use Rattle.report_text.specs.Spelling.{report_lines_text}
use Rattle.report_text.specs.TurnLines.{keep_line, seal_line, turn_lines}
use Rattle.word_text.specs.Ends.{end_line}

-- the text of a call's line, and of a seal's, where they have one
unfoldable pub keep_text : Call → List ℕ
keep_text call = report_lines_text (option_to_list (keep_line call))

unfoldable pub seal_text : Seal → List ℕ
seal_text seal = report_lines_text (option_to_list (seal_line seal))

-- the text of a turn, by its number and by the number of the datagram that it gives
unfoldable pub turn_text : ℕ → ℕ → Turn → List ℕ
turn_text number datagram turn = report_lines_text (turn_lines number datagram turn)

abbrev pub given_in : Option Datagram → ℕ
given_in None = 0
given_in (Some datagram) = 1

-- how many datagrams turns gave
abbrev pub datagrams_given : List Turn → ℕ
datagrams_given [] = 0
datagrams_given (turn ∷ past) = datagrams_given past + given_in turn.step.gives

-- The text of turns, the newest first. They and their datagrams are counted from 1.
unfoldable pub turns_text : List Turn → List ℕ
turns_text [] = []
turns_text (turn ∷ past) =
    turns_text past ++ turn_text (length past + 1) (datagrams_given past + 1) turn

abbrev pub report_head : List ℕ
report_head = line_text (codes "ha-report" ∷ codes "1" ∷ [])

-- the report of turns, the newest first
abbrev pub report : List Turn → List ℕ
report turns = report_head ++ turns_text turns ++ end_line (length turns)

-- ---- the same, line by line

-- the lines of turns, the newest first, each numbered by those before it
abbrev pub turns_lines : List Turn → List ReportLine
turns_lines [] = []
turns_lines (turn ∷ past) =
    turns_lines past ++ turn_lines (length past + 1) (datagrams_given past + 1) turn

-- the lines of a report behind its first
abbrev pub report_lines : List Turn → List ReportLine
report_lines turns = turns_lines turns ++ EndLine (length turns) ∷ []
