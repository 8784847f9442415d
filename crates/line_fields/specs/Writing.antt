-- Words put one after another behind a text, and the text of a line.
use Rattle.std.specs.Prelude.{ℕ, List, [], ◌∷◌, ◌++◌}
use Rattle.line_fields.specs.Words.{line_of}

-- a text, and each word behind it with a space before it
abbrev pub with_words : List ℕ → List (List ℕ) → List ℕ
with_words text [] = text
with_words text (w ∷ ws) = with_words (text ++ (32 ∷ w)) ws

-- a line of some words, and its line feed
abbrev pub line_text : List (List ℕ) → List ℕ
line_text words = line_of words ++ 10 ∷ []
