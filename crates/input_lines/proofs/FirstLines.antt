-- Whether octets begin with a whole line, whatever follows them.
use Rattle.std.proofs.Common.{◌≡◌, ℕ, ◌<◌, ◌≤◌, true, false, not, eqb, List, [], ◌∷◌, ◌++◌, length, refl, ap, arith, inl, inr, ◌⊎◌}
use Rattle.std.proofs.lemmas.Bool.Decides.{eqb_tells}
use Rattle.std.specs.List.{list_all}
use Rattle.std.proofs.lemmas.Bool.{and_parts}
use Rattle.input_lines.specs.Lines.{lines_of, no_feed, without_line_feed}

-- the octets begin with a whole line
pub record HasLine (a : List ℕ) : Type 0 where
  pub line : List ℕ
  pub rest : List ℕ
  pub parts : a ≡ line ++ rest
  pub some : 0 < length line
  pub first : (b : List ℕ) → lines_of (line ++ b) ≡ line ∷ lines_of b

-- the octets are the beginning of a line
pub record BeginsLine (a b : List ℕ) : Type 0 where
  pub more : List ℕ
  pub others : List (List ℕ)
  pub first : lines_of (a ++ b) ≡ (a ++ more) ∷ others
  pub long : length a ≤ length (without_line_feed (a ++ more))

-- the first line, with an octet before it
begins : (c : ℕ) (bs : List ℕ) → eqb c 10 ≡ false → BeginsLine (c ∷ []) bs
unfolding lines_of
begins c bs other = on_lines (lines_of bs) refl
  where
    on_lines : (ls : List (List ℕ)) → lines_of bs ≡ ls → BeginsLine (c ∷ []) bs
    on_lines [] e = record { more = []; others = []; first = rw (other, e) refl; long = rw other (omega arith) }
    on_lines (l ∷ ls) e = record { more = l; others = ls; first = rw (other, e) refl; long = rw other (omega arith) }

begins_more : (c : ℕ) (a b : List ℕ) → eqb c 10 ≡ false → BeginsLine a b → BeginsLine (c ∷ a) b
unfolding lines_of
begins_more c a b other h =
    record { more = h.more; others = h.others; first = rw (other, h.first) refl; long = rw other (let long = h.long in omega arith) }

pub first_line : (c : ℕ) (cs : List ℕ) → HasLine (c ∷ cs) ⊎ ((b : List ℕ) → BeginsLine (c ∷ cs) b)
unfolding lines_of
first_line c [] =
    elim (eqb_tells c 10) [
      | inl feed ↦ inl (record { line = c ∷ []; rest = []; parts = refl; some = omega arith; first = λ b. rw feed.0 refl })
      | inr other ↦ inr (λ b. begins c b other.0)
    ]
first_line c (d ∷ ds) =
    elim (eqb_tells c 10) [
      | inl feed ↦ inl (record { line = c ∷ []; rest = d ∷ ds; parts = refl; some = omega arith; first = λ b. rw feed.0 refl })
      | inr other ↦
          elim (first_line d ds) [
            | inl h ↦
                inl (record { line = c ∷ h.line; rest = h.rest; parts = ap (λ (t : List ℕ). c ∷ t) h.parts; some = omega arith; first = λ b. rw (other.0, h.first b) refl })
            | inr h ↦ inr (λ b. begins_more c (d ∷ ds) b other.0 (h b))
          ]
    ]

pub other_feed : (c : ℕ) → no_feed c ≡ true → eqb c 10 ≡ false
other_feed c h =
    elim (eqb_tells c 10) [
      | inl feed ↦ absurd (let k : not true ≡ true = rw feed.0 at h in cc)
      | inr other ↦ other.0
    ]

-- octets without a line feed are the beginning of a line, whatever follows them
pub begins_all : (c : ℕ) (a b : List ℕ) → list_all no_feed (c ∷ a) ≡ true → BeginsLine (c ∷ a) b
begins_all c [] b h = begins c b (other_feed c (and_parts (no_feed c) true h).0)
begins_all c (d ∷ ds) b h =
    let parts = and_parts (no_feed c) (list_all no_feed (d ∷ ds)) h in
    begins_more c (d ∷ ds) b (other_feed c parts.0) (begins_all d ds b parts.1)

-- a line and its line feed, whatever follows them
pub lines_before : (l rest : List ℕ) → list_all no_feed l ≡ true → lines_of (l ++ (10 ∷ rest)) ≡ (l ++ 10 ∷ []) ∷ lines_of rest
unfolding lines_of
lines_before [] rest h = refl
lines_before (c ∷ cs) rest h =
    let parts = and_parts (no_feed c) (list_all no_feed cs) h in
    rw (other_feed c parts.0, lines_before cs rest parts.1) refl

-- a last line without its line feed
pub lines_alone : (l : List ℕ) → 0 < length l → list_all no_feed l ≡ true → lines_of l ≡ l ∷ []
unfolding lines_of
lines_alone [] some h = absurd (omega arith)
lines_alone (c ∷ []) some h = rw (other_feed c (and_parts (no_feed c) true h).0) refl
lines_alone (c ∷ d ∷ cs) some h =
    let parts = and_parts (no_feed c) (list_all no_feed (d ∷ cs)) h in
    rw (other_feed c parts.0, lines_alone (d ∷ cs) (omega arith) parts.1) refl

pub unfed_fed : (l : List ℕ) → list_all no_feed l ≡ true → without_line_feed (l ++ 10 ∷ []) ≡ l
unfed_fed [] h = refl
unfed_fed (c ∷ cs) h =
    let parts = and_parts (no_feed c) (list_all no_feed cs) h in
    rw (other_feed c parts.0, unfed_fed cs parts.1) refl

pub unfed_alone : (l : List ℕ) → list_all no_feed l ≡ true → without_line_feed l ≡ l
unfed_alone [] h = refl
unfed_alone (c ∷ cs) h =
    let parts = and_parts (no_feed c) (list_all no_feed cs) h in
    rw (other_feed c parts.0, unfed_alone cs parts.1) refl
