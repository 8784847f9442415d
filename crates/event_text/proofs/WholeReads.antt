-- What was read of an event file in pieces, from its beginning on.
use Rattle.std.proofs.Common.{◌≡◌, ℕ, ◌+◌, true, false, List, [], ◌∷◌, ◌++◌, length, Option, Some, None, refl, sym, ap, ◌∙◌, subst, append_assoc, append-nil, length-append, arith, inl, inr}
use Rattle.std.specs.Io.KnownBytes.{Consumes, IsAtEnd}
use Rattle.std.proofs.KnownBytes.{Consumes-nil, Consumes-trans}
use Rattle.events.specs.Events.{PlainEvent}
use Rattle.ha_base.specs.declared.outside.Moment.{Moment}
use Rattle.input_lines.specs.Lines.{with_line_feeds}
use Rattle.input_lines.specs.declared.fault.InputFault.{InputFault}
use Rattle.event_text.specs.Input.{Contents, contents_of, with_events}
use Rattle.event_text.specs.Pieces.{FindsFault, HasRead, IsNew, Reading, TakesEnd, TakesLine, contents_from, event_of, events_in, behind_events}
use Rattle.event_text.specs.declared.lines.Line.{Line}
use Rattle.event_text.specs.declared.lines.Line.TheVariants as line
use Rattle.event_text.specs.declared.place.Place.{Place}

-- nothing was read
pub none_read : (reading : Reading) (left : Option (List ℕ)) → IsNew reading → HasRead reading left left []
none_read reading left new = record {
  taken = [];
  consumed = subst (Consumes left left) (sym new.kept) (Consumes-nil left);
  whole = inl (new.unfed, [], refl);
  says = λ more none. ap (λ (p : Place). behind_events [] (contents_from p more)) (sym new.place);
  before = ap (λ (p : Place). p.before) new.place;
  kept = let empty : length reading.kept ≡ 0 = ap length new.kept in omega (arith, empty);
  fresh = λ one. (new.place, new.unfed);
}

behind_events-on : (events : List (Moment × PlainEvent)) (said : Line) (rest : Contents) → behind_events events (with_events (event_of said) rest) ≡ behind_events (events ++ events_in said) rest
behind_events-on events line.End rest i = record { events = sym (ap (λ e. e ++ rest.events) (append-nil events)) i; fault = rest.fault }
behind_events-on events line.Passed rest i = record { events = sym (ap (λ e. e ++ rest.events) (append-nil events)) i; fault = rest.fault }
behind_events-on events (line.Said now event) rest i = record { events = sym (append_assoc events (events_in (line.Said now event)) rest.events) i; fault = rest.fault }

fed-more : (lines : List (List ℕ)) (text : List ℕ) → with_line_feeds (lines ++ text ∷ []) ≡ with_line_feeds lines ++ (text ++ 10 ∷ [])
fed-more [] text = refl
fed-more (l ∷ lines) text = ap (λ (t : List ℕ). l ++ (10 ∷ t)) (fed-more lines text) ∙ sym (append_assoc l (10 ∷ with_line_feeds lines) (text ++ 10 ∷ []))

-- one more line was taken
pub line_read : (old new : Reading) (left mid now : Option (List ℕ)) (events : List (Moment × PlainEvent)) (said : Line) → HasRead old left mid events → TakesLine old new mid now said
    → HasRead new left now (events ++ events_in said)
line_read old new left mid now events said h t = record {
  taken = h.taken ++ t.line;
  consumed = subst (Consumes left now) octets (Consumes-trans left mid now (h.taken ++ old.kept) t.read h.consumed t.consumed);
  whole = elim t.whole [
    | inl fed ↦
        elim h.whole [
          | inl before ↦
              inl (fed.1, before.1 ++ fed.0.0 ∷ [], ap (λ (a : List ℕ). a ++ t.line) before.2 ∙ ap (λ (b : List ℕ). with_line_feeds before.1 ++ b) fed.0.1 ∙ sym (fed-more before.1 fed.0.0))
          | inr ended ↦ absurd (let k : true ≡ false = sym ended.0 ∙ t.going in cc)
        ]
    | inr ended ↦ inr ended
  ];
  says = λ more none.
      ap contents_of (append_assoc h.taken t.line more)
      ∙ h.says (t.line ++ more) (λ unfed. absurd (let k : true ≡ false = sym unfed ∙ t.going in cc))
      ∙ ap (behind_events events) (t.says more none)
      ∙ behind_events-on events said (contents_from new.place more);
  before = t.before ∙ ap (λ (n : ℕ). n + length t.line) h.before ∙ sym (length-append h.taken t.line);
  kept = t.kept;
  fresh = λ one. absurd (t.later one);
}
  where
    octets : (h.taken ++ old.kept) ++ t.read ≡ (h.taken ++ t.line) ++ new.kept
    octets = append_assoc h.taken old.kept t.read ∙ ap (λ (b : List ℕ). h.taken ++ b) t.parts ∙ sym (append_assoc h.taken t.line new.kept)

-- the events are all
pub all_read : (old new : Reading) (left mid now : Option (List ℕ)) (events : List (Moment × PlainEvent)) → HasRead old left mid events → TakesEnd old new mid now
    → (input : List ℕ) × Consumes left now input × IsAtEnd now × (contents_of input ≡ record { events = events; fault = None })
all_read old new left mid now events h t =
    elim t.ended [
      | inl done ↦ (
        h.taken,
        subst (Consumes left now) (append-nil (h.taken ++ old.kept) ∙ ap (λ (k : List ℕ). h.taken ++ k) done.0 ∙ append-nil h.taken) (Consumes-trans left mid now (h.taken ++ old.kept) [] h.consumed done.1),
        done.2,
        whole,
      )
      | inr before ↦
          elim h.whole [
            | inl fed ↦ absurd (let k : true ≡ false = sym before.0 ∙ fed.0 in cc)
            | inr ended ↦ (
              h.taken,
              subst (λ (l : Option (List ℕ)). Consumes left l h.taken) (sym before.1) (subst (Consumes left mid) (ap (λ (k : List ℕ). h.taken ++ k) ended.1 ∙ append-nil h.taken) h.consumed),
              subst IsAtEnd (sym before.1) ended.2,
              whole,
            )
          ]
    ]
  where
    whole : contents_of h.taken ≡ record { events = events; fault = None }
    whole =
        ap contents_of (sym (append-nil h.taken)) ∙ h.says [] (λ unfed. refl) ∙ ap (behind_events events) t.says
        ∙ (λ i. record { events = append-nil events i; fault = None })

-- the first fault is behind these events
pub fault_read : (old : Reading) (left mid now : Option (List ℕ)) (events : List (Moment × PlainEvent)) (found : InputFault) → old.unfed ≡ false → HasRead old left mid events → FindsFault old mid now found
    → (input : List ℕ) × Consumes left now input × ((more : List ℕ) → (IsAtEnd now → more ≡ []) → contents_of (input ++ more) ≡ record { events = events; fault = Some found })
fault_read old left mid now events found going h f = (
  (h.taken ++ old.kept) ++ f.read,
  Consumes-trans left mid now (h.taken ++ old.kept) f.read h.consumed f.reads.consumed,
  λ more none.
      ap contents_of (ap (λ (a : List ℕ). a ++ more) (append_assoc h.taken old.kept f.read) ∙ append_assoc h.taken (old.kept ++ f.read) more)
      ∙ h.says ((old.kept ++ f.read) ++ more) (λ unfed. absurd (let k : true ≡ false = sym unfed ∙ going in cc))
      ∙ ap (behind_events events) (f.says more none)
      ∙ (λ i. record { events = append-nil events i; fault = Some found }),
)
