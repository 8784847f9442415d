-- The last line of a text.
use Rattle.std.specs.Prelude.{ℕ, List, [], ◌∷◌, codes}
use Rattle.std.specs.Fmt.{decimal}
use Rattle.line_fields.specs.Writing.{line_text}

-- the last line, which says how many turns or messages a text has
abbrev pub end_line : ℕ → List ℕ
end_line count = line_text (codes "end" ∷ decimal count ∷ [])
