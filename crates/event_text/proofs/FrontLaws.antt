-- What an input says is told by as many of its octets as a file may have, and one more.
use Rattle.std.proofs.Common.{◌≡◌, ℕ, zero, suc, ◌+◌, ◌≤◌, List, [], ◌∷◌, ◌++◌, length, Option, Result, Ok, Err, refl, sym, ap, ◌∙◌, append_assoc, append-nil, arith, inl, inr}
use Rattle.std.proofs.lemmas.List.{length-append}
use Rattle.ha_base.specs.declared.outside.Moment.{Moment}
use Rattle.line_fields.specs.declared.fault.LineFault.{LineFault}
use Rattle.event_text.specs.declared.place.Place.{Place}
use Rattle.events.specs.Events.{PlainEvent}
use Rattle.input_lines.specs.Lines.{lines_of, without_line_feed}
use Rattle.input_lines.specs.Limits.{overlong}
use Rattle.input_lines.proofs.FirstLines.{first_line}
use Rattle.input_lines.proofs.LimitLaws.{IsPast, overlong_both, overlong_none, past, unless_ok}
use Rattle.event_text.specs.Input.{Contents, behind_line, contents_at, contents_in, contents_of, event_in, faulty_contents, on_line, on_version, second_line, version_in, with_events}

-- ---- a line that passes the end of the file

-- a line that passes the end is at fault, whatever follows
past_line : (n : ℕ) (line : List ℕ) (others : List (List ℕ)) (p : Place) (h : IsPast p.before n) → p.before ≤ 67108864 → 67108865 ≤ p.before + n → n ≤ length line → n ≤ length (without_line_feed line) → contents_at (line ∷ others) p ≡ faulty_contents p.line h.fault
unfolding contents_at event_in
past_line n line others p h within far_enough long unfed_long =
    rw (overlong_both p.before n n (length line) (length (without_line_feed line)) within far_enough far_enough long unfed_long, h.is) refl

past_version : (n : ℕ) (line : List ℕ) (others : List (List ℕ)) (h : IsPast 0 n) → 67108865 ≤ n → n ≤ length line → n ≤ length (without_line_feed line) → contents_in (line ∷ others) ≡ faulty_contents 1 h.fault
unfolding version_in
past_version n line others h far_enough long unfed_long =
    rw (overlong_both 0 n n (length line) (length (without_line_feed line)) (omega arith) (omega arith) (omega arith) long unfed_long, h.is) refl

-- ---- a line that is read

pub read_within : (p : Place) (octets : ℕ) (line : List ℕ) (x : Option (Moment × PlainEvent)) → event_in p octets line ≡ Ok x → p.before + octets ≤ 67108864
unfolding event_in
read_within p octets line x e = overlong_none p.before octets (length line) (unless_ok (overlong p.before octets (length line)) _ x e)

pub version_within : (octets : ℕ) (line : List ℕ) (x : Unit {0}) → version_in octets line ≡ Ok x → octets ≤ 67108864
unfolding version_in
version_within octets line x e = let within = overlong_none 0 octets (length line) (unless_ok (overlong 0 octets (length line)) _ x e) in omega arith

on_same : (line : ℕ) (r : Result (Option (Moment × PlainEvent)) LineFault) (f g : Option (Moment × PlainEvent) → Contents) → ((x : Option (Moment × PlainEvent)) → r ≡ Ok x → f x ≡ g x) → on_line line r f ≡ on_line line r g
on_same line (Err d) f g h = refl
on_same line (Ok x) f g h = ap (with_events x) (h x refl)

-- what follows a line may be other lines, if they say the same
step : (line : List ℕ) (ls ms : List (List ℕ)) (p : Place) → ((event : Option (Moment × PlainEvent)) → p.before + length line ≤ 67108864 → contents_at ls (behind_line p (length line) event) ≡ contents_at ms (behind_line p (length line) event)) → contents_at (line ∷ ls) p ≡ contents_at (line ∷ ms) p
unfolding contents_at
step line ls ms p h =
    on_same p.line (event_in p (length line) (without_line_feed line)) _ _ (λ x e. h x (read_within p (length line) (without_line_feed line) x e))

at_front : (fuel : ℕ) (a b : List ℕ) (p : Place) → length a ≤ fuel → p.before ≤ 67108864 → 67108865 ≤ p.before + length a → contents_at (lines_of (a ++ b)) p ≡ contents_at (lines_of a) p
at_front zero a b p small within far_enough = absurd (omega arith)
at_front (suc n) [] b p small within far_enough = absurd (omega arith)
at_front (suc n) (c ∷ cs) b p small within far_enough =
    elim (first_line c cs) [
      | inl h ↦
          let a = c ∷ cs in
          let size : length a ≡ length h.line + length h.rest = ap length h.parts ∙ length-append h.line h.rest in
          let some = h.some in
          let whole : lines_of a ≡ h.line ∷ lines_of h.rest = ap lines_of h.parts ∙ h.first h.rest in
          let longer : lines_of (a ++ b) ≡ h.line ∷ lines_of (h.rest ++ b) = ap lines_of (ap (λ (t : List ℕ). t ++ b) h.parts ∙ append_assoc h.line h.rest b) ∙ h.first (h.rest ++ b) in
          rw (longer, whole) (step h.line (lines_of (h.rest ++ b)) (lines_of h.rest) p (λ event fits. at_front n h.rest b (behind_line p (length h.line) event) (omega arith) fits (omega arith)))
      | inr h ↦
          let a = c ∷ cs in
          let x = h b in
          let y = h [] in
          let is_past = past p.before (length a) within far_enough in
          let size_x = length-append a x.more in
          let size_y = length-append a y.more in
          let longer = ap (λ (ls : List (List ℕ)). contents_at ls p) x.first ∙ past_line (length a) (a ++ x.more) x.others p is_past within far_enough (omega arith) x.long in
          let whole = ap (λ (t : List ℕ). contents_at (lines_of t) p) (sym (append-nil a)) ∙ ap (λ (ls : List (List ℕ)). contents_at ls p) y.first ∙ past_line (length a) (a ++ y.more) y.others p is_past within far_enough (omega arith) y.long in
          longer ∙ sym whole
    ]

on_version_same : (r : Result Unit LineFault) (x y : Contents) → ((u : Unit {0}) → r ≡ Ok u → x ≡ y) → on_version r x ≡ on_version r y
on_version_same (Err f) x y h = refl
on_version_same (Ok u) x y h = h u refl

pub contents_front : (front more : List ℕ) → 67108865 ≤ length front → contents_of (front ++ more) ≡ contents_of front
contents_front [] more far_enough = absurd (omega arith)
contents_front (c ∷ cs) more far_enough =
    elim (first_line c cs) [
      | inl h ↦
          let a = c ∷ cs in
          let size : length a ≡ length h.line + length h.rest = ap length h.parts ∙ length-append h.line h.rest in
          let whole : lines_of a ≡ h.line ∷ lines_of h.rest = ap lines_of h.parts ∙ h.first h.rest in
          let longer : lines_of (a ++ more) ≡ h.line ∷ lines_of (h.rest ++ more) = ap lines_of (ap (λ (t : List ℕ). t ++ more) h.parts ∙ append_assoc h.line h.rest more) ∙ h.first (h.rest ++ more) in
          rw (longer, whole) (on_version_same (version_in (length h.line) (without_line_feed h.line)) _ _ (λ u e.
          at_front (length h.rest) h.rest more (second_line (length h.line)) (omega arith) (version_within (length h.line) (without_line_feed h.line) u e) (omega arith)))
      | inr h ↦
          let a = c ∷ cs in
          let x = h more in
          let y = h [] in
          let is_past = past 0 (length a) (omega arith) (omega arith) in
          let size_x = length-append a x.more in
          let size_y = length-append a y.more in
          let longer = ap contents_in x.first ∙ past_version (length a) (a ++ x.more) x.others is_past far_enough (omega arith) x.long in
          let whole = ap contents_of (sym (append-nil a)) ∙ ap contents_in y.first ∙ past_version (length a) (a ++ y.more) y.others is_past far_enough (omega arith) y.long in
          longer ∙ sym whole
    ]
