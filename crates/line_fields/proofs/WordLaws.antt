-- A line and its words determine each other.
use Rattle.std.proofs.Common.{◌≡◌, ◌≢◌, ℕ, zero, suc, ◌+◌, ◌<◌, Bool, true, false, not, eqb, List, [], ◌∷◌, ◌++◌, length, get_or, take, drop, refl, sym, ap, ◌∙◌, arith, inl, inr}
use Rattle.std.specs.List.{list_all}
use Rattle.std.proofs.lemmas.Bool.{and_parts, ne_eqb}
use Rattle.std.proofs.lemmas.Bool.Decides.{eqb_tells}
use Rattle.line_fields.specs.Words.{line_of, spaced, onto, words_of}

-- a line is parted at its first space
pub words_split : (line : List ℕ) (n : ℕ) → n < length line → ((k : ℕ) → k < n → get_or line k 0 ≢ 32) → get_or line n 0 ≡ 32 → words_of line ≡ take n line ∷ words_of (drop (n + 1) line)
unfolding words_of
words_split [] n lt before found = absurd (omega arith)
words_split (c ∷ cs) zero lt before found = rw found refl
words_split (c ∷ cs) (suc n) lt before found =
    let rest = words_split cs n (omega arith) (λ k h. before (suc k) (omega arith)) found in
    let other = ne_eqb c 32 (before 0 (omega arith)) in
    let next : suc n + 1 ≡ suc (n + 1) = omega arith in
    rw (other, rest, next) refl

-- a line without a space is one word
pub words_whole : (line : List ℕ) → ((k : ℕ) → k < length line → get_or line k 0 ≢ 32) → words_of line ≡ line ∷ []
unfolding words_of
words_whole [] before = refl
words_whole (c ∷ cs) before =
    let rest = words_whole cs (λ k h. before (suc k) (omega arith)) in
    let other = ne_eqb c 32 (before 0 (omega arith)) in
    rw (other, rest) refl

onto_line : (c : ℕ) (ws : List (List ℕ)) → line_of (onto c ws) ≡ c ∷ line_of ws
onto_line c [] = refl
onto_line c (w ∷ ws) = refl

-- there is always a first word
pub record Begins (ws : List (List ℕ)) : Type 0 where
  pub first : List ℕ
  pub others : List (List ℕ)
  pub parts : ws ≡ first ∷ others

pub words_begin : (line : List ℕ) → Begins (words_of line)
unfolding words_of
words_begin [] = record { first = []; others = []; parts = refl }
words_begin (c ∷ cs) =
    let rest = words_begin cs in
    elim (eqb_tells c 32) [
      | inl space ↦ record { first = []; others = words_of cs; parts = rw space.0 refl }
      | inr other ↦ record { first = c ∷ rest.first; others = rest.others; parts = rw (other.0, rest.parts) refl }
    ]

-- a line is the line of its words
pub line-words : (line : List ℕ) → line_of (words_of line) ≡ line
unfolding words_of
line-words [] = refl
line-words (c ∷ cs) =
    elim (eqb_tells c 32) [
      | inl space ↦
          let rest = words_begin cs in
          let again : (32 ∷ rest.first) ++ spaced rest.others ≡ 32 ∷ cs = ap (λ (t : List ℕ). 32 ∷ t) (ap line_of (sym rest.parts) ∙ line-words cs) in
          rw (space.0, rest.parts, again, space.1) refl
      | inr other ↦ rw (other.0, onto_line c (words_of cs), line-words cs) refl
    ]

-- a word has no space
abbrev pub no_space : ℕ → Bool
no_space c = not (eqb c 32)

abbrev pub is_word : List ℕ → Bool
is_word w = list_all no_space w

abbrev pub are_words : List (List ℕ) → Bool
are_words ws = list_all is_word ws

other_octet : (c : ℕ) → no_space c ≡ true → eqb c 32 ≡ false
other_octet c h =
    elim (eqb_tells c 32) [
      | inl space ↦ absurd (let k : not true ≡ true = rw space.0 at h in cc)
      | inr other ↦ other.0
    ]

word_before : (w rest : List ℕ) → is_word w ≡ true → words_of (w ++ (32 ∷ rest)) ≡ w ∷ words_of rest
unfolding words_of
word_before [] rest h = refl
word_before (c ∷ cs) rest h =
    let parts = and_parts (no_space c) (is_word cs) h in
    rw (other_octet c parts.0, word_before cs rest parts.1) refl

word_alone : (w : List ℕ) → is_word w ≡ true → words_of (w ++ []) ≡ w ∷ []
unfolding words_of
word_alone [] h = refl
word_alone (c ∷ cs) h =
    let parts = and_parts (no_space c) (is_word cs) h in
    rw (other_octet c parts.0, word_alone cs parts.1) refl

-- the words of a line that some words make are these
pub words-line : (w : List ℕ) (ws : List (List ℕ)) → are_words (w ∷ ws) ≡ true → words_of (line_of (w ∷ ws)) ≡ w ∷ ws
words-line w [] h = word_alone w (and_parts (is_word w) true h).0
words-line w (v ∷ vs) h =
    let parts = and_parts (is_word w) (are_words (v ∷ vs)) h in
    word_before w (v ++ spaced vs) parts.0 ∙ ap (λ (t : List (List ℕ)). w ∷ t) (words-line v vs parts.1)

pub is_word-append : (v w : List ℕ) → is_word v ≡ true → is_word w ≡ true → is_word (v ++ w) ≡ true
is_word-append [] w hv hw = hw
is_word-append (c ∷ cs) w hv hw =
    let parts = and_parts (no_space c) (is_word cs) hv in
    rw (parts.0, is_word-append cs w parts.1 hw) refl
