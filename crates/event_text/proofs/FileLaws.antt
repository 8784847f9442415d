-- An input without a fault is the text of its events.
use Rattle.std.proofs.Common.{◌≡◌, ◌≢◌, ℕ, ◌+◌, ◌<◌, ◌≤◌, Bool, true, false, not, cond, eqb, List, [], ◌∷◌, ◌++◌, length, Option, Some, None, Result, Ok, Err, refl, sym, ap, ◌∙◌, subst, append_assoc, append-nil, arith, inl, inr, ◌⊎◌, codes}
use Rattle.std.proofs.lemmas.Bool.{and_parts, eqb-false, false≢true, le-ltb, ne_eqb}
use Rattle.std.specs.List.{AllByRecursion, filter, list_all}
use Rattle.std.proofs.lemmas.Bool.Decides.{eqb_tells}
use Rattle.std.proofs.lemmas.List.{length-append}
use Rattle.std.proofs.lemmas.Slice.Eq.{bytes_eq-Decides}
use Rattle.std.specs.Str.{bytes_eq}
use Rattle.ha_base.specs.declared.outside.Moment.{Moment}
use Rattle.line_fields.specs.declared.fault.LineFault.{LineFault}
use Rattle.line_fields.specs.declared.fault.LineReason.TheVariants as reasons
use Rattle.event_text.specs.declared.place.Place.{Place}
use Rattle.line_fields.specs.Words.{onto}
use Rattle.input_lines.specs.Lines.{IsFile, IsLine, is_filled, with_line_feeds, is_passed, is_said, lines_of, no_feed, without_line_feed}
use Rattle.events.specs.Events.{PlainEvent}
use Rattle.line_fields.specs.Fields.{fault_at}
use Rattle.event_text.specs.Reading.{line_at}
use Rattle.event_text.specs.Grammar.{EventLine}
use Rattle.event_text.specs.Input.{behind_line, contents_at, contents_in, contents_of, event_in, on_line, on_version, second_line, some_event, version_in}
use Rattle.input_lines.specs.Limits.{overlong, unless_fault}
use Rattle.event_text.specs.EventFile.{EventText, SayEvents}
use Rattle.event_text.proofs.LineLaws.{line_again, line_takes}
use Rattle.line_fields.proofs.FieldLaws.{pick}
use Rattle.event_text.proofs.FrontLaws.{read_within, version_within}
use Rattle.input_lines.proofs.LimitLaws.{short_line as short_read, unless_ok}

-- lines one after another
joined : List (List ℕ) → List ℕ
joined [] = []
joined (line ∷ lines) = line ++ joined lines

joined_onto : (c : ℕ) (ls : List (List ℕ)) → joined (onto c ls) ≡ c ∷ joined ls
unfolding joined
joined_onto c [] = refl
joined_onto c (l ∷ ls) = refl

-- the lines of an input are all of it
lines_joined : (octets : List ℕ) → joined (lines_of octets) ≡ octets
unfolding lines_of joined
lines_joined [] = refl
lines_joined (c ∷ cs) =
    elim (eqb_tells c 10) [
      | inl feed ↦ rw (feed.0, lines_joined cs) refl
      | inr other ↦ rw (other.0, joined_onto c (lines_of cs), lines_joined cs) refl
    ]

-- each line has its line feed, but maybe the last
AreFed : List (List ℕ) → Type 0
AreFed [] = Unit {0}
AreFed (line ∷ []) = (line ≡ without_line_feed line ++ 10 ∷ []) ⊎ ((line ≡ without_line_feed line) × (is_filled (without_line_feed line) ≡ true))
AreFed (line ∷ next ∷ lines) = (line ≡ without_line_feed line ++ 10 ∷ []) × AreFed (next ∷ lines)

fed_onto : (c : ℕ) (ls : List (List ℕ)) → eqb c 10 ≡ false → AreFed ls → AreFed (onto c ls)
unfolding AreFed
fed_onto c [] other h = inr (rw other refl, rw other refl)
fed_onto c (l ∷ []) other (inl h) = inl (rw other (ap (λ (t : List ℕ). c ∷ t) h))
fed_onto c (l ∷ []) other (inr h) = inr (rw other (ap (λ (t : List ℕ). c ∷ t) h.0), rw other refl)
fed_onto c (l ∷ m ∷ ls) other h = (rw other (ap (λ (t : List ℕ). c ∷ t) h.0), h.1)

fed_before : (line : List ℕ) (ls : List (List ℕ)) → line ≡ without_line_feed line ++ 10 ∷ [] → AreFed ls → AreFed (line ∷ ls)
unfolding AreFed
fed_before line [] e h = inl e
fed_before line (l ∷ ls) e h = (e, h)

lines_fed : (octets : List ℕ) → AreFed (lines_of octets)
unfolding lines_of AreFed
lines_fed [] = tt
lines_fed (c ∷ cs) =
    elim (eqb_tells c 10) [
      | inl feed ↦ rw feed.0 (fed_before (c ∷ []) (lines_of cs) (rw (feed.0, feed.1) refl) (lines_fed cs))
      | inr other ↦ rw other.0 (fed_onto c (lines_of cs) other.0 (lines_fed cs))
    ]

abbrev bare : List (List ℕ) → List (List ℕ)
bare [] = []
bare (l ∷ ls) = without_line_feed l ∷ bare ls

-- lines with their line feeds are a file of the lines without
file_of : (ls : List (List ℕ)) → AreFed ls → IsFile (bare ls) (joined ls)
unfolding joined AreFed
file_of [] h = inl refl
file_of (l ∷ []) (inl h) = inl (append-nil l ∙ h)
file_of (l ∷ []) (inr h) = inr (ap (λ (t : List ℕ). t ++ 10 ∷ []) (append-nil l ∙ h.0), h.1)
file_of (l ∷ m ∷ ls) h =
    elim (file_of (m ∷ ls) h.1) [
      | inl e ↦ inl (ap (λ (t : List ℕ). t ++ joined (m ∷ ls)) h.0 ∙ append_assoc (without_line_feed l) (10 ∷ []) (joined (m ∷ ls)) ∙ ap (λ (t : List ℕ). without_line_feed l ++ (10 ∷ t)) e)
      | inr e ↦
          inr (
            append_assoc l (joined (m ∷ ls)) (10 ∷ []) ∙ ap (λ (t : List ℕ). t ++ (joined (m ∷ ls) ++ 10 ∷ [])) h.0
                ∙ append_assoc (without_line_feed l) (10 ∷ []) (joined (m ∷ ls) ++ 10 ∷ []) ∙ ap (λ (t : List ℕ). without_line_feed l ++ (10 ∷ t)) e.0,
            e.1,
          )
    ]

-- ---- what was read

unfed_whole : (line : List ℕ) → list_all no_feed (without_line_feed line) ≡ true
unfed_whole [] = refl
unfed_whole (c ∷ cs) =
    elim (eqb_tells c 10) [
      | inl feed ↦ rw feed.0 refl
      | inr other ↦ let no : no_feed c ≡ true = rw other.0 refl in rw (other.0, no, unfed_whole cs) refl
    ]

unfed_size : (line : List ℕ) → length (without_line_feed line) ≤ length line
unfed_size [] = omega arith
unfed_size (c ∷ cs) =
    let rest = unfed_size cs in
    elim (eqb_tells c 10) [
      | inl feed ↦ rw feed.0 (omega arith)
      | inr other ↦ rw other.0 (omega arith)
    ]

record ReadsAt (ls : List (List ℕ)) (p : Place) (events : List (Moment × PlainEvent)) : Type 0 where
  are_lines : AllByRecursion IsLine (bare ls)
  say : SayEvents p.last.0 (filter is_said (bare ls)) events
  few : p.count + length events ≤ 100000
  short : p.before + length (joined ls) ≤ 67108864

unless_is : {A : Type 0} (o : Option LineFault) (r : Result A LineFault) (x : A) → unless_fault o r ≡ Ok x → r ≡ Ok x
unless_is (Some f) r x e = absurd cc
unless_is None r x e = e

-- what a line said that was read: nothing, or an event, and not one too many
Says : Place → List ℕ → Option (Moment × PlainEvent) → Type 0
Says p line None = is_passed line ≡ true
Says p line (Some x) = (is_passed line ≡ false) × (p.count ≢ 100000) × EventLine p.last.0 line x.0 x.1

some_read : (p : Place) (line : List ℕ) (x : Option (Moment × PlainEvent)) → is_passed line ≡ false → p.count ≢ 100000 → (r : Result (Moment × PlainEvent) LineFault) → line_at p.last.0 line ≡ r → some_event r ≡ Ok x → Says p line x
unfolding Says
some_read p line x said few (Err f) e same = absurd cc
some_read p line None said few (Ok y) e same = absurd cc
some_read p line (Some x) said few (Ok y) e same = (said, few, line_takes p.last.0 line x (e ∙ cc))

passed_read : (p : Place) (line : List ℕ) (x : Option (Moment × PlainEvent)) (r : Result (Option (Moment × PlainEvent)) LineFault) → is_passed line ≡ true → r ≡ Ok None → r ≡ Ok x → Says p line x
unfolding Says
passed_read p line None r passed none same = passed
passed_read p line (Some y) r passed none same = absurd (let both = sym none ∙ same in cc)

event_read : (p : Place) (octets : ℕ) (line : List ℕ) (x : Option (Moment × PlainEvent)) → event_in p octets line ≡ Ok x → Says p line x
unfolding event_in Says
event_read p octets line x e =
    pick (is_passed line) (Ok None) (cond (eqb p.count 100000) (Err (fault_at 1 reasons.TooMany)) (some_event (line_at p.last.0 line))) (Ok x)
    (unless_is (overlong p.before octets (length line)) _ x e)
    (λ hit same. passed_read p line x (Ok None) hit refl same)
    (λ miss rest. pick (eqb p.count 100000) (Err (fault_at 1 reasons.TooMany)) (some_event (line_at p.last.0 line)) (Ok x) rest
    (λ hit same. absurd cc)
    (λ few same. some_read p line x miss (eqb-false p.count 100000 few) (line_at p.last.0 line) refl same))

-- a line that was read is whole, and not too long
line_read : (l : List ℕ) (p : Place) (x : Option (Moment × PlainEvent)) → event_in p (length l) (without_line_feed l) ≡ Ok x → IsLine (without_line_feed l)
unfolding event_in
line_read l p x e =
    let none = unless_ok (overlong p.before (length l) (length (without_line_feed l))) _ x e in
    record {
      whole = unfed_whole l;
      short = short_read p.before (length l) (length (without_line_feed l)) (unfed_size l) none;
    }

-- a line and what follows it were read
on_read : (l : List ℕ) (ls : List (List ℕ)) (p : Place) → p.count ≤ 100000 → ((q : Place) → q.count ≤ 100000 → q.before ≤ 67108864 → (contents_at ls q).fault ≡ None → ReadsAt ls q (contents_at ls q).events) → (r : Result (Option (Moment × PlainEvent)) LineFault) → event_in p (length l) (without_line_feed l) ≡ r → (on_line p.line r (λ event. contents_at ls (behind_line p (length l) event))).fault ≡ None → ReadsAt (l ∷ ls) p (on_line p.line r (λ event. contents_at ls (behind_line p (length l) event))).events
unfolding joined Says
on_read l ls p few follow (Err f) e clean = absurd cc
on_read l ls p few follow (Ok None) e clean =
    let within = read_within p (length l) (without_line_feed l) None e in
    let passed : is_passed (without_line_feed l) ≡ true = event_read p (length l) (without_line_feed l) None e in
    let rest = follow (behind_line p (length l) None) few within clean in
    let rest_few = rest.few in
    let rest_short = rest.short in
    record {
      are_lines = (line_read l p None e, rest.are_lines);
      say = rw passed rest.say;
      few = rest_few;
      short = omega (arith, length-append l (joined ls));
    }
on_read l ls p few follow (Ok (Some x)) e clean =
    let within = read_within p (length l) (without_line_feed l) (Some x) e in
    let read = event_read p (length l) (without_line_feed l) (Some x) e in
    let other : p.count ≢ 100000 = read.1 in
    let rest = follow (behind_line p (length l) (Some x)) (omega arith) within clean in
    let rest_few = rest.few in
    let rest_short = rest.short in
    record {
      are_lines = (line_read l p (Some x) e, rest.are_lines);
      say = rw read.0 (read.2, rest.say);
      few = omega arith;
      short = omega (arith, length-append l (joined ls));
    }

reads_at : (ls : List (List ℕ)) (p : Place) → p.count ≤ 100000 → p.before ≤ 67108864 → (contents_at ls p).fault ≡ None → ReadsAt ls p (contents_at ls p).events
unfolding contents_at joined
reads_at [] p few short none = record { are_lines = tt; say = tt; few = omega arith; short = omega arith }
reads_at (l ∷ ls) p few short none =
    on_read l ls p few (λ q q_few q_short clean. reads_at ls q q_few q_short clean) (event_in p (length l) (without_line_feed l)) refl none

version_read : (octets : ℕ) (line : List ℕ) (x : Unit {0}) → version_in octets line ≡ Ok x → line ≡ codes "ha 1"
unfolding version_in
version_read octets line x e =
    pick (bytes_eq line (codes "ha 1")) (Ok tt) (Err (fault_at 1 reasons.Word)) (Ok x) (unless_is (overlong 0 octets (length line)) _ x e)
    (λ hit same. (bytes_eq-Decides line (codes "ha 1")).0 hit)
    (λ miss same. absurd cc)

text_in : (ls : List (List ℕ)) → AreFed ls → (contents_in ls).fault ≡ None → EventText (contents_in ls).events (joined ls)
unfolding joined
text_in [] h none = absurd cc
text_in (l ∷ ls) h none = on_first (version_in (length l) (without_line_feed l)) refl none
  where
    on_first : (r : Result Unit LineFault) → version_in (length l) (without_line_feed l) ≡ r → (on_version r (contents_at ls (second_line (length l)))).fault ≡ None → EventText (on_version r (contents_at ls (second_line (length l)))).events (joined (l ∷ ls))
    on_first (Err f) e clean = absurd cc
    on_first (Ok u) e clean =
        let within = version_within (length l) (without_line_feed l) u e in
        let reads = reads_at ls (second_line (length l)) (omega arith) within clean in
        let few = reads.few in
        let short = reads.short in
        record {
          lines = bare ls;
          file = subst (λ (t : List ℕ). IsFile (t ∷ bare ls) (l ++ joined ls)) (version_read (length l) (without_line_feed l) u e) (file_of (l ∷ ls) h);
          are_lines = reads.are_lines;
          say = reads.say;
          few = omega arith;
          short = omega (arith, length-append l (joined ls));
        }

-- an input without a fault is the text of its events
pub text_found : (octets : List ℕ) → (contents_of octets).fault ≡ None → EventText (contents_of octets).events octets
text_found octets none = subst (EventText (contents_of octets).events) (lines_joined octets) (text_in (lines_of octets) (lines_fed octets) none)

-- ---- a text of events is read

other_feed : (c : ℕ) → no_feed c ≡ true → eqb c 10 ≡ false
other_feed c h =
    elim (eqb_tells c 10) [
      | inl feed ↦ absurd (let k : not true ≡ true = rw feed.0 at h in cc)
      | inr other ↦ other.0
    ]

lines_nil : lines_of [] ≡ []
unfolding lines_of
lines_nil = refl

lines_before : (l rest : List ℕ) → list_all no_feed l ≡ true → lines_of (l ++ (10 ∷ rest)) ≡ (l ++ 10 ∷ []) ∷ lines_of rest
unfolding lines_of
lines_before [] rest h = refl
lines_before (c ∷ cs) rest h =
    let parts = and_parts (no_feed c) (list_all no_feed cs) h in
    rw (other_feed c parts.0, lines_before cs rest parts.1) refl

lines_alone : (l : List ℕ) → 0 < length l → list_all no_feed l ≡ true → lines_of l ≡ l ∷ []
unfolding lines_of
lines_alone [] some h = absurd (omega arith)
lines_alone (c ∷ []) some h = rw (other_feed c (and_parts (no_feed c) true h).0) refl
lines_alone (c ∷ d ∷ cs) some h =
    let parts = and_parts (no_feed c) (list_all no_feed (d ∷ cs)) h in
    rw (other_feed c parts.0, lines_alone (d ∷ cs) (omega arith) parts.1) refl

unfed_fed : (l : List ℕ) → list_all no_feed l ≡ true → without_line_feed (l ++ 10 ∷ []) ≡ l
unfed_fed [] h = refl
unfed_fed (c ∷ cs) h =
    let parts = and_parts (no_feed c) (list_all no_feed cs) h in
    rw (other_feed c parts.0, unfed_fed cs parts.1) refl

unfed_alone : (l : List ℕ) → list_all no_feed l ≡ true → without_line_feed l ≡ l
unfed_alone [] h = refl
unfed_alone (c ∷ cs) h =
    let parts = and_parts (no_feed c) (list_all no_feed cs) h in
    rw (other_feed c parts.0, unfed_alone cs parts.1) refl

-- lines end with a line feed
record EndsFed (octets : List ℕ) : Type 0 where
  front : List ℕ
  parts : octets ≡ front ++ 10 ∷ []

fed_ends : (l : List ℕ) (ls : List (List ℕ)) → EndsFed (with_line_feeds (l ∷ ls))
fed_ends l [] = record { front = l; parts = refl }
fed_ends l (m ∷ ms) =
    let rest = fed_ends m ms in
    record { front = l ++ (10 ∷ rest.front); parts = ap (λ (t : List ℕ). l ++ (10 ∷ t)) rest.parts ∙ sym (append_assoc l (10 ∷ rest.front) (10 ∷ [])) }

-- the same behind two lists
cancelled : (a b : List ℕ) → a ++ 10 ∷ [] ≡ b ++ 10 ∷ [] → a ≡ b
cancelled [] [] e = refl
cancelled [] (c ∷ []) e = absurd cc
cancelled [] (c ∷ d ∷ ds) e = absurd cc
cancelled (c ∷ []) [] e = absurd cc
cancelled (c ∷ d ∷ ds) [] e = absurd cc
cancelled (a ∷ rest) (b ∷ others) e = let tail = cancelled rest others cc in cc

-- what a first line and the others make of a file
record Parts (l : List ℕ) (ls : List (List ℕ)) (octets : List ℕ) : Type 0 where
  line : List ℕ
  rest : List ℕ
  parts : lines_of octets ≡ line ∷ lines_of rest
  bare_line : without_line_feed line ≡ l
  file : IsFile ls rest
  size : length octets ≡ length line + length rest

file_parts : (l : List ℕ) (ls : List (List ℕ)) (octets : List ℕ) → list_all no_feed l ≡ true → IsFile (l ∷ ls) octets → Parts l ls octets
file_parts l ls octets h (inl e) =
    record {
      line = l ++ 10 ∷ [];
      rest = with_line_feeds ls;
      parts = ap lines_of e ∙ lines_before l (with_line_feeds ls) h;
      bare_line = unfed_fed l h;
      file = inl refl;
      size = ap length e ∙ ap length (sym (append_assoc l (10 ∷ []) (with_line_feeds ls))) ∙ length-append (l ++ 10 ∷ []) (with_line_feeds ls);
    }
file_parts [] [] octets h (inr e) = absurd (false≢true e.1)
file_parts (c ∷ cs) [] octets h (inr e) =
    let same = cancelled octets (c ∷ cs) e.0 in
    record {
      line = c ∷ cs;
      rest = [];
      parts = ap lines_of same ∙ lines_alone (c ∷ cs) (omega arith) h ∙ ap (λ (t : List (List ℕ)). (c ∷ cs) ∷ t) (sym lines_nil);
      bare_line = unfed_alone (c ∷ cs) h;
      file = inl refl;
      size = ap length same ∙ omega arith;
    }
file_parts l (m ∷ ms) octets h (inr e) =
    let ends = fed_ends m ms in
    let whole : octets ≡ l ++ (10 ∷ ends.front) = cancelled octets (l ++ (10 ∷ ends.front)) (e.0 ∙ ap (λ (t : List ℕ). l ++ (10 ∷ t)) ends.parts ∙ sym (append_assoc l (10 ∷ ends.front) (10 ∷ []))) in
    record {
      line = l ++ 10 ∷ [];
      rest = ends.front;
      parts = ap lines_of whole ∙ lines_before l ends.front h;
      bare_line = unfed_fed l h;
      file = inr (sym ends.parts, e.1);
      size = ap length whole ∙ ap length (sym (append_assoc l (10 ∷ []) ends.front)) ∙ length-append (l ++ 10 ∷ []) ends.front;
    }

short_line : (before octets size : ℕ) → size ≤ 16384 → before + octets ≤ 67108864 → overlong before octets size ≡ None
short_line before octets size short within = rw (le-ltb 16384 size short, le-ltb 67108864 (before + octets) within) refl

passed_again : (p : Place) (octets : ℕ) (line : List ℕ) → p.before + octets ≤ 67108864 → IsLine line → is_passed line ≡ true → event_in p octets line ≡ Ok None
unfolding event_in
passed_again p octets line within is_line passed = rw (short_line p.before octets (length line) is_line.short within, passed) refl

event_again : (p : Place) (octets : ℕ) (line : List ℕ) (x : Moment × PlainEvent) → p.count < 100000 → p.before + octets ≤ 67108864 → is_passed line ≡ false → EventLine p.last.0 line x.0 x.1 → event_in p octets line ≡ Ok (Some x)
unfolding event_in
event_again p octets line x few within said says =
    rw (short_line p.before octets (length line) says.short within, said, ne_eqb p.count 100000 (λ e. omega arith), line_again p.last.0 line x.0 x.1 says) refl

Again : List (List ℕ) → Type 0
Again lines =
    (events : List (Moment × PlainEvent)) (p : Place) (octets : List ℕ) → IsFile lines octets → AllByRecursion IsLine lines → SayEvents p.last.0 (filter is_said lines) events → p.count + length events ≤ 100000 → p.before + length octets ≤ 67108864 → contents_at (lines_of octets) p ≡ record { events = events; fault = None }

-- nothing is left
none_again : (events : List (Moment × PlainEvent)) (p : Place) → SayEvents p.last.0 [] events → contents_at (lines_of []) p ≡ record { events = events; fault = None }
unfolding contents_at lines_of
none_again [] p say = refl
none_again (x ∷ xs) p say = absurd say

-- behind a line that is passed over
passed_on : (l : List ℕ) (ls : List (List ℕ)) → is_passed l ≡ true → Again ls → Again (l ∷ ls)
unfolding contents_at Again
passed_on l ls passed follow events p octets file are say few short =
    let parts = file_parts l ls octets are.0.whole file in
    let size = parts.size in
    let read : event_in p (length parts.line) (without_line_feed parts.line) ≡ Ok None = rw parts.bare_line (passed_again p (length parts.line) l (omega arith) are.0 passed) in
    let rest = follow events (behind_line p (length parts.line) None) parts.rest parts.file are.1 (rw passed at say) few (omega arith) in
    rw (parts.parts, read, rest) refl

-- behind an event's line
event_on : (l : List ℕ) (ls : List (List ℕ)) → is_passed l ≡ false → Again ls → Again (l ∷ ls)
unfolding contents_at Again
event_on l ls said follow [] p octets file are say few short = absurd (rw said at say)
event_on l ls said follow (x ∷ xs) p octets file are say few short =
    let parts = file_parts l ls octets are.0.whole file in
    let says = rw said at say in
    let size = parts.size in
    let read : event_in p (length parts.line) (without_line_feed parts.line) ≡ Ok (Some x) = rw parts.bare_line (event_again p (length parts.line) l x (omega arith) (omega arith) said says.0) in
    let rest = follow xs (behind_line p (length parts.line) (Some x)) parts.rest parts.file are.1 says.1 (omega arith) (omega arith) in
    rw (parts.parts, read, rest) refl

line_on : (l : List ℕ) (ls : List (List ℕ)) (b : Bool) → is_passed l ≡ b → Again ls → Again (l ∷ ls)
line_on l ls true passed follow = passed_on l ls passed follow
line_on l ls false said follow = event_on l ls said follow

again_at : (lines : List (List ℕ)) → Again lines
unfolding Again
again_at [] events p octets (inl e) are say few short = rw e (none_again events p say)
again_at [] events p octets (inr e) are say few short = absurd (false≢true e.1)
again_at (l ∷ ls) events p octets file are say few short = line_on l ls (is_passed l) refl (again_at ls) events p octets file are say few short

version_again : (octets : ℕ) (line : List ℕ) → octets ≤ 67108864 → line ≡ codes "ha 1" → version_in octets line ≡ Ok tt
unfolding version_in
version_again octets line within e = rw (e, short_line 0 octets 4 (omega arith) (omega arith)) refl

-- a text of events is read as these events
pub text_again : (events : List (Moment × PlainEvent)) (octets : List ℕ) → EventText events octets → contents_of octets ≡ record { events = events; fault = None }
unfolding Again
text_again events octets text =
    let parts = file_parts (codes "ha 1") text.lines octets refl text.file in
    let size = parts.size in
    let short = text.short in
    let few = text.few in
    rw (parts.parts, version_again (length parts.line) (without_line_feed parts.line) (omega arith) parts.bare_line)
    (again_at text.lines events (second_line (length parts.line)) parts.rest parts.file text.are_lines text.say (omega arith) (omega arith))
