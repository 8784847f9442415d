-- What an input holds is told by as many of its octets as an input may have, and one more.
use Rattle.std.proofs.Common.{◌≡◌, Bool, true, false, cond, eqb, ℕ, zero, suc, ◌+◌, ◌≤◌, List, [], ◌∷◌, ◌++◌, length, Option, Some, None, Result, Ok, Err, refl, sym, ap, ◌∙◌, append_assoc, append-nil, arith, inl, inr}
use Rattle.std.proofs.lemmas.List.{length-append}
use Rattle.line_fields.specs.Words.{onto}
use Rattle.line_fields.specs.declared.fault.LineFault.{LineFault}
use Rattle.input_lines.specs.Lines.{lines_of, without_line_feed}
use Rattle.input_lines.specs.Limits.{overlong}
use Rattle.input_lines.proofs.FirstLines.{first_line}
use Rattle.input_lines.proofs.LimitLaws.{IsPast, overlong_both, overlong_none, past, unless_ok}
use Rattle.show_messages.specs.Messages.{Messages, behind_message_line, faulty_messages, line_in, messages_at, messages_of, on_message_line, with_message}
use Rattle.show_messages.specs.declared.lines.Place.{Place}

-- ---- a line that passes the end of the file

-- a line that passes the end is at fault, whatever follows
past_line : (n : ℕ) (line : List ℕ) (others : List (List ℕ)) (p : Place) (h : IsPast p.before n) → p.before ≤ 67108864 → 67108865 ≤ p.before + n → n ≤ length line → n ≤ length (without_line_feed line) → messages_at (line ∷ others) p ≡ faulty_messages p.line h.fault
unfolding messages_at line_in
past_line n line others p h within far_enough long unfed_long =
    rw (overlong_both p.before n n (length line) (length (without_line_feed line)) within far_enough far_enough long unfed_long, h.is) refl

-- ---- a line that is read

read_within : (p : Place) (octets : ℕ) (line : List ℕ) (x : Option (List ℕ)) → line_in p octets line ≡ Ok x → p.before + octets ≤ 67108864
unfolding line_in
read_within p octets line x e = overlong_none p.before octets (length line) (unless_ok (overlong p.before octets (length line)) _ x e)

on_same : (p : Place) (r : Result (Option (List ℕ)) LineFault) (f g : ℕ → Messages) → ((x : Option (List ℕ)) → r ≡ Ok x → (count : ℕ) → f count ≡ g count) → on_message_line p r f ≡ on_message_line p r g
on_same p (Err d) f g h = refl
on_same p (Ok None) f g h = h None refl p.count
on_same p (Ok (Some message)) f g h = ap (with_message message) (h (Some message) refl (p.count + 1))

-- what follows a line may be other lines, if they hold the same
step : (line : List ℕ) (ls ms : List (List ℕ)) (p : Place) → ((count : ℕ) → p.before + length line ≤ 67108864 → messages_at ls (behind_message_line p (length line) count) ≡ messages_at ms (behind_message_line p (length line) count)) → messages_at (line ∷ ls) p ≡ messages_at (line ∷ ms) p
unfolding messages_at
step line ls ms p h =
    on_same p (line_in p (length line) (without_line_feed line)) _ _ (λ x e count. h count (read_within p (length line) (without_line_feed line) x e))

at_front : (fuel : ℕ) (a b : List ℕ) (p : Place) → length a ≤ fuel → p.before ≤ 67108864 → 67108865 ≤ p.before + length a → messages_at (lines_of (a ++ b)) p ≡ messages_at (lines_of a) p
at_front zero a b p small within far_enough = absurd (omega arith)
at_front (suc n) [] b p small within far_enough = absurd (omega arith)
at_front (suc n) (c ∷ cs) b p small within far_enough =
    elim (first_line c cs) [
      | inl h ↦
          let a = c ∷ cs in
          let size : length a ≡ length h.line + length h.rest = ap length h.parts ∙ length-append h.line h.rest in
          let some = h.some in
          let whole : lines_of a ≡ h.line ∷ lines_of h.rest = ap lines_of h.parts ∙ h.first h.rest in
          let longer : lines_of (a ++ b) ≡ h.line ∷ lines_of (h.rest ++ b) = ap lines_of (ap (λ (t : List ℕ). t ++ b) h.parts ∙ append_assoc h.line h.rest b) ∙ h.first (h.rest ++ b) in
          rw (longer, whole) (step h.line (lines_of (h.rest ++ b)) (lines_of h.rest) p (λ count fits. at_front n h.rest b (behind_message_line p (length h.line) count) (omega arith) fits (omega arith)))
      | inr h ↦
          let a = c ∷ cs in
          let x = h b in
          let y = h [] in
          let is_past = past p.before (length a) within far_enough in
          let size_x = length-append a x.more in
          let size_y = length-append a y.more in
          let longer = ap (λ (ls : List (List ℕ)). messages_at ls p) x.first ∙ past_line (length a) (a ++ x.more) x.others p is_past within far_enough (omega arith) x.long in
          let whole = ap (λ (t : List ℕ). messages_at (lines_of t) p) (sym (append-nil a)) ∙ ap (λ (ls : List (List ℕ)). messages_at ls p) y.first ∙ past_line (length a) (a ++ y.more) y.others p is_past within far_enough (omega arith) y.long in
          longer ∙ sym whole
    ]

pub messages_front : (front more : List ℕ) → 67108865 ≤ length front → messages_of (front ++ more) ≡ messages_of front
messages_front front more far_enough = at_front (length front) front more (record { line = 1; before = 0; count = 0 }) (omega arith) (omega arith) (omega arith)

-- ---- an input without a fault

abbrev octets_in : List (List ℕ) → ℕ
octets_in [] = 0
octets_in (line ∷ lines) = length line + octets_in lines

onto_octets : (c : ℕ) (lines : List (List ℕ)) → octets_in (onto c lines) ≡ 1 + octets_in lines
onto_octets c [] = refl
onto_octets c (line ∷ lines) = omega arith

-- the lines of an input have its octets
lines_octets : (octets : List ℕ) → octets_in (lines_of octets) ≡ length octets
unfolding lines_of
lines_octets [] = refl
lines_octets (c ∷ cs) = by_case (eqb c 10) (lines_octets cs)
  where
    by_case : (b : Bool) → octets_in (lines_of cs) ≡ length cs → octets_in (cond b ((c ∷ []) ∷ lines_of cs) (onto c (lines_of cs))) ≡ suc (length cs)
    by_case true rest = omega (arith, rest)
    by_case false rest = let more = onto_octets c (lines_of cs) in omega (arith, rest, more)

-- lines without a fault end within the octets that an input may have
within_at : (lines : List (List ℕ)) (p : Place) → p.before ≤ 67108864 → (messages_at lines p).fault ≡ None → p.before + octets_in lines ≤ 67108864
unfolding messages_at
within_at [] p within none = omega arith
within_at (line ∷ lines) p within none =
    on_read (within_at lines) (line_in p (length line) (without_line_feed line)) refl none
  where
    on_read : ((q : Place) → q.before ≤ 67108864 → (messages_at lines q).fault ≡ None → q.before + octets_in lines ≤ 67108864)
        → (r : Result (Option (List ℕ)) LineFault) → line_in p (length line) (without_line_feed line) ≡ r
        → (on_message_line p r (λ count. messages_at lines (behind_message_line p (length line) count))).fault ≡ None → p.before + (length line + octets_in lines) ≤ 67108864
    on_read go (Err f) is e = absurd cc
    on_read go (Ok None) is e =
        let rest = go (behind_message_line p (length line) p.count) (read_within p (length line) (without_line_feed line) None is) e in
        omega (arith, rest)
    on_read go (Ok (Some message)) is e =
        let rest = go (behind_message_line p (length line) (p.count + 1)) (read_within p (length line) (without_line_feed line) (Some message) is) e in
        omega (arith, rest)

pub messages_short : (input : List ℕ) → (messages_of input).fault ≡ None → length input ≤ 67108864
messages_short input none =
    let within = within_at (lines_of input) (record { line = 1; before = 0; count = 0 }) (omega arith) none in
    let size = lines_octets input in
    omega (arith, within, size)
