-- A line as words: one more than it has spaces.
use Rattle.std.specs.Prelude.{ℕ, ◌+◌, ◌==◌, List, [], ◌∷◌, ◌++◌, length, Option, Some, None, if◌then◌else◌}
use Rattle.std.specs.Option.{option_copied}
use denote.Ref.{Bor}

-- each word with a space before it
abbrev pub spaced : List (List ℕ) → List ℕ
spaced [] = []
spaced (w ∷ ws) = (32 ∷ w) ++ spaced ws

-- the line of some words
abbrev pub line_of : List (List ℕ) → List ℕ
line_of [] = []
line_of (w ∷ ws) = w ++ spaced ws

-- an octet before the first word
abbrev pub onto : ℕ → List (List ℕ) → List (List ℕ)
onto c [] = (c ∷ []) ∷ []
onto c (w ∷ ws) = (c ∷ w) ∷ ws

-- the words of a line
unfoldable pub words_of : List ℕ → List (List ℕ)
words_of [] = [] ∷ []
words_of (c ∷ cs) = if c == 32 then [] ∷ words_of cs else onto c (words_of cs)

abbrev pub words_in : Option (List ℕ) → List (List ℕ)
words_in None = []
words_in (Some line) = words_of line

-- the words of what is left of a line
abbrev pub words_from : Option (Bor (List ℕ)) → List (List ℕ)
words_from rest = words_in (option_copied rest)

abbrev pub octets_in : Option (List ℕ) → ℕ
octets_in None = 0
octets_in (Some line) = length line + 1

-- the octets of what is left of a line, and of the space before it
abbrev pub octets_left : Option (Bor (List ℕ)) → ℕ
octets_left rest = octets_in (option_copied rest)

-- what is left of a line: its words, and the column of the first of them
pub record Cursor : Type 0 where
  pub column : ℕ
  pub words : List (List ℕ)
