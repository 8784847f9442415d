-- The lines before a fault are a text of their own.
use Rattle.std.proofs.Common.{◌≡◌, ℕ, zero, suc, ◌+◌, ◌-◌, List, [], ◌∷◌, ◌++◌, length, take, drop, Option, Some, None, Result, Ok, Err, refl, sym, ap, ◌∙◌, subst, arith, inl, inr, ◌⊎◌}
use Rattle.std.proofs.lemmas.Bool.Decides.{eqb_tells}
use Rattle.ha_base.specs.declared.outside.Moment.{Moment}
use Rattle.events.specs.Events.{PlainEvent}
use Rattle.line_fields.specs.declared.fault.LineFault.{LineFault}
use Rattle.line_fields.specs.Words.{onto}
use Rattle.input_lines.specs.declared.fault.InputFault.{InputFault}
use Rattle.input_lines.specs.Lines.{lines_of, without_line_feed}
use Rattle.event_text.specs.declared.place.Place.{Place}
use Rattle.event_text.specs.EventFile.{EventText}
use Rattle.event_text.specs.Input.{Contents, behind_line, contents_at, contents_in, contents_of, event_in, faulty_contents, on_line, on_version, second_line, version_in}
use Rattle.event_text.proofs.FileLaws.{text_found}
use Rattle.event_laws.specs.Fronts.{IsTextOf, StandBefore}

-- ---- an input is parted behind some of its lines

record IsParted (n : ℕ) (octets : List ℕ) : Type 0 where
  front : List ℕ
  rest : List ℕ
  parts : octets ≡ front ++ rest
  lines_before : lines_of front ≡ take n (lines_of octets)
  lines_from : lines_of rest ≡ drop n (lines_of octets)

take_onto : (c n : ℕ) (ls : List (List ℕ)) → onto c (take (suc n) ls) ≡ take (suc n) (onto c ls)
take_onto c zero [] = refl
take_onto c (suc n) [] = refl
take_onto c n (l ∷ ls) = refl

drop_onto : (c n : ℕ) (ls : List (List ℕ)) → drop (suc n) ls ≡ drop (suc n) (onto c ls)
drop_onto c zero [] = refl
drop_onto c (suc n) [] = refl
drop_onto c n (l ∷ ls) = refl

parted_at : (n : ℕ) (octets : List ℕ) → IsParted n octets
unfolding lines_of
parted_at zero octets = record { front = []; rest = octets; parts = refl; lines_before = refl; lines_from = refl }
parted_at (suc n) [] = record { front = []; rest = []; parts = refl; lines_before = refl; lines_from = refl }
parted_at (suc n) (c ∷ cs) =
    elim (eqb_tells c 10) [
      | inl feed ↦
          let h = parted_at n cs in
          record {
            front = c ∷ h.front;
            rest = h.rest;
            parts = ap (λ (t : List ℕ). c ∷ t) h.parts;
            lines_before = rw (feed.0, h.lines_before) refl;
            lines_from = rw (feed.0, h.lines_from) refl;
          }
      | inr other ↦
          let h = parted_at (suc n) cs in
          record {
            front = c ∷ h.front;
            rest = h.rest;
            parts = ap (λ (t : List ℕ). c ∷ t) h.parts;
            lines_before = rw (other.0, h.lines_before) (take_onto c n (lines_of cs));
            lines_from = rw other.0 (h.lines_from ∙ drop_onto c n (lines_of cs));
          }
    ]

-- ---- what was read of the lines before a fault

-- of n lines the events are read, and the next is at fault
record ReadsBefore (read : List (List ℕ) → Contents) (first : ℕ) (ls : List (List ℕ)) (f : InputFault) (events : List (Moment × PlainEvent)) : Type 0 where
  n : ℕ
  line : f.line ≡ first + n
  count : length (take n ls) ≡ n
  front : read (take n ls) ≡ record { events = events; fault = None }

fault_line_is : (line : ℕ) (g : LineFault) (f : InputFault) → (faulty_contents line g).fault ≡ Some f → f.line ≡ line
fault_line_is line g f e = cc

before_on : (l : List ℕ) (ls : List (List ℕ)) (p : Place) (f : InputFault)
    → ((q : Place) → (contents_at ls q).fault ≡ Some f → ReadsBefore (λ xs. contents_at xs q) q.line ls f (contents_at ls q).events)
    → (r : Result (Option (Moment × PlainEvent)) LineFault) → event_in p (length l) (without_line_feed l) ≡ r
    → (on_line p.line r (λ event. contents_at ls (behind_line p (length l) event))).fault ≡ Some f
    → ReadsBefore (λ xs. contents_at xs p) p.line (l ∷ ls) f (on_line p.line r (λ event. contents_at ls (behind_line p (length l) event))).events
unfolding contents_at
before_on l ls p f follow (Err g) read e =
    let is = fault_line_is p.line g f e in
    record { n = 0; line = omega (arith, is); count = refl; front = refl }
before_on l ls p f follow (Ok None) read e =
    let rest = follow (behind_line p (length l) None) e in
    let is = rest.line in
    record { n = suc rest.n; line = omega (arith, is); count = ap suc rest.count; front = rw (read, rest.front) refl }
before_on l ls p f follow (Ok (Some x)) read e =
    let rest = follow (behind_line p (length l) (Some x)) e in
    let is = rest.line in
    record { n = suc rest.n; line = omega (arith, is); count = ap suc rest.count; front = rw (read, rest.front) refl }

before_at : (ls : List (List ℕ)) (p : Place) (f : InputFault) → (contents_at ls p).fault ≡ Some f → ReadsBefore (λ xs. contents_at xs p) p.line ls f (contents_at ls p).events
unfolding contents_at
before_at [] p f e = absurd cc
before_at (l ∷ ls) p f e =
    before_on l ls p f (λ q h. before_at ls q f h) (event_in p (length l) (without_line_feed l)) refl e

-- the same of a whole input, of which the first line may be at fault
record FirstOrBehind (ls : List (List ℕ)) (f : InputFault) (contents : Contents) : Type 0 where
  n : ℕ
  line : f.line ≡ n + 1
  count : length (take n ls) ≡ n
  front : (contents_in (take n ls) ≡ record { events = contents.events; fault = None }) ⊎ ((n ≡ 0) × (contents.events ≡ []))

before_version : (l : List ℕ) (ls : List (List ℕ)) (f : InputFault) (r : Result Unit LineFault) → version_in (length l) (without_line_feed l) ≡ r
    → (on_version r (contents_at ls (second_line (length l)))).fault ≡ Some f → FirstOrBehind (l ∷ ls) f (on_version r (contents_at ls (second_line (length l))))
before_version l ls f (Err g) read e =
    let is = fault_line_is 1 g f e in
    record { n = 0; line = omega (arith, is); count = refl; front = inr (refl, refl) }
before_version l ls f (Ok u) read e =
    let rest = before_at ls (second_line (length l)) f e in
    let is = rest.line in
    record { n = suc rest.n; line = omega (arith, is); count = ap suc rest.count; front = inl (rw (read, rest.front) refl) }

before_in : (ls : List (List ℕ)) (f : InputFault) → (contents_in ls).fault ≡ Some f → FirstOrBehind ls f (contents_in ls)
before_in [] f e = record { n = 0; line = let is : f.line ≡ 1 = cc in omega (arith, is); count = refl; front = inr (refl, refl) }
before_in (l ∷ ls) f e = before_version l ls f (version_in (length l) (without_line_feed l)) refl e

onto_some : (c : ℕ) (ls : List (List ℕ)) → onto c ls ≡ [] → ⊥
onto_some c [] e = absurd cc
onto_some c (l ∷ ls) e = absurd cc

no_lines : (octets : List ℕ) → lines_of octets ≡ [] → octets ≡ []
unfolding lines_of
no_lines [] e = refl
no_lines (c ∷ cs) e =
    elim (eqb_tells c 10) [
      | inl feed ↦ absurd (let k : (c ∷ []) ∷ lines_of cs ≡ [] = rw feed.0 at e in cc)
      | inr other ↦ absurd (onto_some c (lines_of cs) (rw other.0 at e))
    ]

text_before : (n : ℕ) (input : List ℕ) (events : List (Moment × PlainEvent)) (h : IsParted n input)
    → (contents_in (take n (lines_of input)) ≡ record { events = events; fault = None }) ⊎ ((n ≡ 0) × (events ≡ [])) → IsTextOf events h.front
text_before n input events h (inl read) =
    let same : contents_of h.front ≡ record { events = events; fault = None } = ap contents_in h.lines_before ∙ read in
    let text = text_found h.front (ap (λ (c : Contents). c.fault) same) in
    inl (subst (λ (xs : List (Moment × PlainEvent)). EventText xs h.front) (ap (λ (c : Contents). c.events) same) text)
text_before n input events h (inr none) =
    inr (no_lines h.front (h.lines_before ∙ ap (λ (k : ℕ). take k (lines_of input)) none.0), none.1)

pub stand_before : (input : List ℕ) (fault : InputFault) → (contents_of input).fault ≡ Some fault → StandBefore (contents_of input).events fault.line input
stand_before input fault e =
    let before = before_in (lines_of input) fault e in
    let parted = parted_at before.n input in
    let is = before.line in
    let number : before.n ≡ fault.line - 1 = omega (arith, is) in
    record {
      front = parted.front;
      rest = parted.rest;
      parts = parted.parts;
      lines_before = parted.lines_before ∙ ap (λ (k : ℕ). take k (lines_of input)) number;
      lines_from = parted.lines_from ∙ ap (λ (k : ℕ). drop k (lines_of input)) number;
      count = ap (λ (t : List (List ℕ)). length t + 1) parted.lines_before ∙ ap (λ (k : ℕ). k + 1) before.count ∙ sym is;
      text = text_before before.n input (contents_of input).events parted before.front;
    }
