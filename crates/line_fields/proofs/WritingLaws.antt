-- Words put one after another make a line.
use Rattle.std.proofs.Common.{◌≡◌, ℕ, List, [], ◌∷◌, ◌++◌, refl, sym, ap, ◌∙◌, append_assoc, append-nil}
use Rattle.line_fields.specs.Words.{spaced, line_of}
use Rattle.line_fields.specs.Writing.{line_text, with_words}

with_words_spaced : (text : List ℕ) (ws : List (List ℕ)) → with_words text ws ≡ text ++ spaced ws
with_words_spaced text [] = sym (append-nil text)
with_words_spaced text (w ∷ ws) = with_words_spaced (text ++ (32 ∷ w)) ws ∙ append_assoc text (32 ∷ w) (spaced ws)

pub with_words_append : (text : List ℕ) (vs ws : List (List ℕ)) → with_words text (vs ++ ws) ≡ with_words (with_words text vs) ws
with_words_append text [] ws = refl
with_words_append text (v ∷ vs) ws = with_words_append (text ++ (32 ∷ v)) vs ws

-- a word, the words behind it, and a line feed are their line
pub line_put : (text w : List ℕ) (ws : List (List ℕ)) → with_words (text ++ w) ws ++ (10 ∷ []) ≡ text ++ line_text (w ∷ ws)
line_put text w ws =
    ap (λ (t : List ℕ). t ++ (10 ∷ [])) (with_words_spaced (text ++ w) ws ∙ append_assoc text w (spaced ws)) ∙ append_assoc text (line_of (w ∷ ws)) (10 ∷ [])
