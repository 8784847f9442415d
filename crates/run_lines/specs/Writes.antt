-- The text of the newest turn.
use Rattle.std.specs.Prelude.{ℕ, ◌+◌, List, [], ◌∷◌, length}
use Rattle.events.specs.declared.turn.Turn.{Turn}
use Rattle.report_text.specs.Report.{datagrams_given, turn_text}

-- the text of the newest turn
abbrev pub newest_text : List Turn → List ℕ
newest_text [] = []
newest_text (turn ∷ past) = turn_text (length past + 1) (datagrams_given past + 1) turn
