-- The lines of a text.
use Rattle.ha_base.specs.declared.limits.TheConstants.{LINE_OCTETS}
use Rattle.std.specs.Prelude.{◌≡◌, ℕ, ◌≤◌, ◌==◌, not, Bool, true, false, List, [], ◌∷◌, ◌++◌, length, ◌⊎◌, if◌then◌else◌}
use Rattle.std.specs.List.{list_all}
use Rattle.line_fields.specs.Words.{onto}

-- lines, each with a line feed
abbrev pub with_line_feeds : List (List ℕ) → List ℕ
with_line_feeds [] = []
with_line_feeds (line ∷ lines) = line ++ (10 ∷ with_line_feeds lines)

abbrev pub is_filled : List ℕ → Bool
is_filled [] = false
is_filled (c ∷ cs) = true

-- there is a last line, and it is not empty
abbrev pub has_filled_last : List (List ℕ) → Bool
has_filled_last [] = false
has_filled_last (line ∷ []) = is_filled line
has_filled_last (line ∷ next ∷ lines) = has_filled_last (next ∷ lines)

-- The octets are these lines. The last may lack its line feed where it is not empty.
abbrev pub IsFile : List (List ℕ) → List ℕ → Type 0
IsFile lines octets =
    (octets ≡ with_line_feeds lines) ⊎ ((octets ++ 10 ∷ [] ≡ with_line_feeds lines)
    × (has_filled_last lines ≡ true))

abbrev pub no_feed : ℕ → Bool
no_feed c = not (c == 10)

-- A line of a file: it has no line feed in it, and is not too long.
pub record IsLine (line : List ℕ) : Type 0 where
  pub whole : list_all no_feed line ≡ true
  pub short : length line ≤ LINE_OCTETS

-- A line that is passed over: it is empty, or a comment, which begins with `#`.
abbrev pub is_passed : List ℕ → Bool
is_passed [] = true
is_passed (c ∷ cs) = c == 35

abbrev pub is_said : List ℕ → Bool
is_said line = not (is_passed line)

-- The lines of an input, each with its line feed. The last may lack it.
unfoldable pub lines_of : List ℕ → List (List ℕ)
lines_of [] = []
lines_of (c ∷ cs) = if c == 10 then (c ∷ []) ∷ lines_of cs else onto c (lines_of cs)

-- a line without its line feed
abbrev pub without_line_feed : List ℕ → List ℕ
without_line_feed [] = []
without_line_feed (c ∷ cs) = if c == 10 then [] else c ∷ without_line_feed cs
