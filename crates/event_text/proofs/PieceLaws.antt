-- What a line that was taken, or the front of one, says of an event file.
use Rattle.std.proofs.Common.{◌≡◌, ◌≢◌, ℕ, ◌+◌, ◌-◌, ◌<◌, ◌≤◌, ◌⊎◌, true, false, eqb, List, [], ◌∷◌, ◌++◌, length, Option, Some, None, Result, Ok, Err, IfOk, IfErr, OnOk, refl, sym, ap, ◌∙◌, subst, append_assoc, append-nil, length-append, arith, inl, inr}
use Rattle.std.specs.List.{list_all}
use Rattle.std.specs.Io.KnownBytes.{Consumes, IsAtEnd}
use Rattle.std.proofs.lemmas.Bool.Decides.{eqb_tells}
use Rattle.std.proofs.lemmas.Bool.{ne_eqb}
use Rattle.ha_base.specs.declared.outside.Moment.{Moment}
use Rattle.input_lines.specs.Lines.{lines_of, no_feed}
use Rattle.input_lines.specs.Readers as lines
use Rattle.input_lines.specs.Taking.{BeginsUnfed, TakesFrom}
use Rattle.input_lines.specs.declared.fault.InputFault.{InputFault}
use Rattle.input_lines.specs.declared.taking.Limits.{Limits}
use Rattle.input_lines.proofs.TakenLines.{IsFirst, PassesLimit, alone_first, fed_first, file_passes, line_passes}
use Rattle.line_fields.specs.Fields.{fault_at}
use Rattle.line_fields.specs.declared.fault.LineFault.{LineFault}
use Rattle.line_fields.specs.declared.fault.LineReason.TheVariants as reasons
use Rattle.event_text.specs.Input.{events_counted, moment_behind, behind_line, contents_at, event_in, faulty_contents, on_line, on_version, second_line, version_in, version_of, with_events}
use Rattle.event_text.specs.Pieces.{FailsAt, FindsFault, IsFed, IsFresh, Reading, ReadsOn, StopsAt, Takes, TakesEnd, TakesLine, contents_from, event_from, event_of, first_place, no_event}
use Rattle.event_text.specs.declared.lines.Line.{Line}
use Rattle.event_text.specs.declared.lines.Line.TheVariants as line
use Rattle.event_text.specs.declared.read_fault.TakeFault.{TakeFault}
use Rattle.event_text.specs.declared.read_fault.TakeFault.TheVariants as fault
use Rattle.event_text.specs.declared.place.Place.{Place}

-- ---- what a line says

on_first : (n : ℕ) (more : List ℕ) (r : Result Unit LineFault)
    → on_version r (contents_at (lines_of more) (second_line n)) ≡ on_line 1 (no_event r) (λ e. contents_from (behind_line first_place n e) more)
on_first n more (Err f) = refl
on_first n more (Ok x) = ap (λ (k : ℕ). contents_at (lines_of more) (second_line k)) (let none : n ≡ 0 + n = omega arith in none)

first_says : (text line more : List ℕ) → IsFirst 0 text line more
    → contents_from first_place (line ++ more) ≡ on_line 1 (event_from 1 0 (record { 0 = 0 }) text) (λ e. contents_from (behind_line first_place (length line) e) more)
unfolding version_in
first_says text line more is = rw (is.first, is.bare, is.within) (on_first (length line) more (version_of text))

other_says : (p : Place) (text line more : List ℕ) → 0 < p.line → eqb p.line 1 ≡ false → IsFirst p.before text line more
    → contents_from p (line ++ more) ≡ on_line p.line (event_from p.line p.count p.last text) (λ e. contents_from (behind_line p (length line) e) more)
unfolding contents_at event_in
other_says p text line more some other is =
    let behind : eqb (p.line + 1) 1 ≡ false = ne_eqb (p.line + 1) 1 (λ e. omega (arith, e, some)) in
    rw (other, behind, is.first, is.bare, is.within) refl

-- what octets say from a line on that was taken
pub line_says : (p : Place) (text line more : List ℕ) → 0 < p.line → (p.line ≡ 1 → p ≡ first_place) → IsFirst p.before text line more
    → contents_from p (line ++ more) ≡ on_line p.line (event_from p.line p.count p.last text) (λ e. contents_from (behind_line p (length line) e) more)
line_says p text line more some first is =
    elim (eqb_tells p.line 1) [
      | inl one ↦
          subst (λ (q : Place). IsFirst q.before text line more
          → contents_from q (line ++ more) ≡ on_line q.line (event_from q.line q.count q.last text) (λ e. contents_from (behind_line q (length line) e) more))
          (sym (first one.1)) (first_says text line more) is
      | inr other ↦ other_says p text line more some other.0 is
    ]

first_limit : (octets : List ℕ) (f : LineFault) → PassesLimit 0 octets f → contents_from first_place octets ≡ faulty_contents 1 f
unfolding version_in
first_limit octets f h = rw (h.first, h.long) refl

other_limit : (p : Place) (octets : List ℕ) (f : LineFault) → eqb p.line 1 ≡ false → PassesLimit p.before octets f → contents_from p octets ≡ faulty_contents p.line f
unfolding contents_at event_in
other_limit p octets f other h = rw (other, h.first, h.long) refl

-- what octets say whose first line passes a limit
pub limit_says : (p : Place) (octets : List ℕ) (f : LineFault) → (p.line ≡ 1 → p ≡ first_place) → PassesLimit p.before octets f → contents_from p octets ≡ faulty_contents p.line f
limit_says p octets f first h =
    elim (eqb_tells p.line 1) [
      | inl one ↦
          subst (λ (q : Place). PassesLimit q.before octets f → contents_from q octets ≡ faulty_contents q.line f) (sym (first one.1)) (first_limit octets f) h
      | inr other ↦ other_limit p octets f other.0 h
    ]

-- nothing is left behind the version line
pub end_says : (p : Place) → p.line ≢ 1 → contents_from p [] ≡ record { events = []; fault = None }
unfolding lines_of contents_at
end_says p other = rw (ne_eqb p.line 1 other) refl

-- an empty file has a fault
pub none_says : (p : Place) → p.line ≡ 1 → contents_from p [] ≡ faulty_contents p.line (fault_at 1 reasons.Missing)
unfolding lines_of
none_says p one = rw one refl

-- ---- what a reader of lines took

-- a line was taken, with its line feed where it has one
pub record LineTaken (old new : lines.Reading) (left still_left : Option (List ℕ)) : Type 0 where
  pub read : List ℕ
  pub line : List ℕ
  pub going : old.unfed ≡ false
  pub consumed : Consumes left still_left read
  pub parts : old.kept ++ read ≡ line ++ new.kept
  pub whole : (IsFed line × (new.unfed ≡ false)) ⊎ ((new.unfed ≡ true) × (new.kept ≡ []) × IsAtEnd still_left)
  pub some : 0 < length line
  pub before : new.before ≡ old.before + length line
  pub within : new.before ≤ 67108864
  pub short : length new.line ≤ 16384
  pub first : (more : List ℕ) → (new.unfed ≡ true → more ≡ []) → IsFirst old.before new.line line more

fed_taken : (old new : lines.Reading) (left still_left : Option (List ℕ)) → old.limits ≡ record { line = 16384; file = 67108864 } → lines.TakesLine old new left still_left → LineTaken old new left still_left
fed_taken old new left still_left limits t =
    let file : new.before ≤ 67108864 = subst (λ (l : Limits). new.before ≤ l.file) limits t.within in
    let short : length new.line ≤ 16384 = subst (λ (l : Limits). length new.line ≤ l.line) limits t.takes.short in
    let before = t.before in
    record {
      read = t.takes.read;
      line = new.line ++ 10 ∷ [];
      going = t.going;
      consumed = t.takes.consumed;
      parts = t.takes.parts ∙ sym (append_assoc new.line (10 ∷ []) new.kept);
      whole = inl ((new.line, refl, t.takes.feedless), t.fed);
      some = omega (arith, length-append new.line (10 ∷ []));
      before = omega (arith, length-append new.line (10 ∷ []), before);
      within = file;
      short = short;
      first = λ more none. fed_first old.before new.line more t.takes.feedless short (omega (arith, before, file));
    }

last_taken : (old new : lines.Reading) (left still_left : Option (List ℕ)) → old.limits ≡ record { line = 16384; file = 67108864 } → lines.TakesLast old new left still_left → LineTaken old new left still_left
last_taken old new left still_left limits t =
    let file : old.before + length new.line ≤ 67108864 = subst (λ (l : Limits). old.before + length new.line ≤ l.file) limits t.takes.within in
    let short : length new.line ≤ 16384 = subst (λ (l : Limits). length new.line ≤ l.line) limits t.takes.short in
    let before = t.before in
    record {
      read = t.takes.read;
      line = new.line;
      going = t.going;
      consumed = t.takes.consumed;
      parts = t.takes.parts ∙ ap (λ (k : List ℕ). new.line ++ k) (sym t.nothing);
      whole = inr (t.unfed, t.nothing, t.end_reached);
      some = t.some;
      before = before;
      within = omega (arith, before, file);
      short = short;
      first = λ more none. subst (IsFirst old.before new.line new.line) (sym (none t.unfed)) (alone_first old.before new.line t.takes.feedless short file t.some);
    }

pub line_taken : (old new : lines.Reading) (left still_left : Option (List ℕ)) → old.limits ≡ record { line = 16384; file = 67108864 } → lines.TakesLine old new left still_left ⊎ lines.TakesLast old new left still_left
    → LineTaken old new left still_left
line_taken old new left still_left limits (inl t) = fed_taken old new left still_left limits t
line_taken old new left still_left limits (inr t) = last_taken old new left still_left limits t

-- the front of a line was read, and the line passes a limit
pub record LimitPassed (old : lines.Reading) (left still_left : Option (List ℕ)) (f : LineFault) : Type 0 where
  pub read : List ℕ
  pub going : old.unfed ≡ false
  pub consumed : Consumes left still_left read
  pub bounded : old.before + length (old.kept ++ read) ≤ 67108864 + 65536
  pub passes : (more : List ℕ) → PassesLimit old.before ((old.kept ++ read) ++ more) f

-- as many octets were read as a file may have and a piece
pub front_bounded : (old new : lines.Reading) (read : List ℕ) → old.kept ++ read ≡ new.line ++ new.kept → old.before + length new.line ≤ 67108864 → length new.kept ≤ 65536
    → old.before + length (old.kept ++ read) ≤ 67108864 + 65536
front_bounded old new read parts within kept =
    let size : length (old.kept ++ read) ≡ length new.line + length new.kept = ap length parts ∙ length-append new.line new.kept in
    omega (arith, size, within, kept)

pub line_too_long : (old new : lines.Reading) (left still_left : Option (List ℕ)) → old.limits ≡ record { line = 16384; file = 67108864 } → lines.TakesFront old new left still_left → length new.line ≡ old.limits.line
    → BeginsUnfed new.kept → length new.kept ≤ 65536 → LimitPassed old left still_left (fault_at 16385 reasons.LineTooLong)
line_too_long old new left still_left limits t long other kept =
    let full : length new.line ≡ 16384 = long ∙ ap (λ (l : Limits). l.line) limits in
    let within : old.before + length new.line ≤ 67108864 = subst (λ (l : Limits). old.before + length new.line ≤ l.file) limits t.takes.within in
    record {
      read = t.takes.read;
      going = t.going;
      consumed = t.takes.consumed;
      bounded = front_bounded old new t.takes.read t.takes.parts within kept;
      passes = λ more. subst (λ (o : List ℕ). PassesLimit old.before o (fault_at 16385 reasons.LineTooLong))
          (sym (ap (λ (o : List ℕ). o ++ more) t.takes.parts ∙ append_assoc new.line new.kept more))
          (line_passes old.before new.line new.kept more t.takes.feedless full within other);
    }

pub file_too_long : (old new : lines.Reading) (left still_left : Option (List ℕ)) → old.limits ≡ record { line = 16384; file = 67108864 } → lines.TakesFront old new left still_left → old.before + length new.line ≡ old.limits.file
    → new.kept ≢ [] → (BeginsUnfed new.kept → length new.line < old.limits.line) → length new.kept ≤ 65536
    → LimitPassed old left still_left (fault_at (length new.line + 1) reasons.FileTooLong)
file_too_long old new left still_left limits t full some unless kept =
    let whole : old.before + length new.line ≡ 67108864 = full ∙ ap (λ (l : Limits). l.file) limits in
    let short : length new.line ≤ 16384 = subst (λ (l : Limits). length new.line ≤ l.line) limits t.takes.short in
    let below : BeginsUnfed new.kept → length new.line < 16384 = subst (λ (l : Limits). BeginsUnfed new.kept → length new.line < l.line) limits unless in
    let column : 67108865 - old.before ≡ length new.line + 1 = omega (arith, whole) in
    record {
      read = t.takes.read;
      going = t.going;
      consumed = t.takes.consumed;
      bounded = front_bounded old new t.takes.read t.takes.parts (omega (arith, whole)) kept;
      passes = λ more. subst (λ (o : List ℕ). PassesLimit old.before o (fault_at (length new.line + 1) reasons.FileTooLong))
          (sym (ap (λ (o : List ℕ). o ++ more) t.takes.parts ∙ append_assoc new.line new.kept more))
          (subst (λ (k : ℕ). PassesLimit old.before (new.line ++ (new.kept ++ more)) (fault_at k reasons.FileTooLong)) column
          (file_passes old.before new.line new.kept more t.takes.feedless short whole some below));
    }

-- ---- what taking a line answers

abbrev pub reading : lines.Reading → ℕ → ℕ → Moment → Reading
reading l n count last = record { kept = l.kept; unfed = l.unfed; place = record { line = n; before = l.before; count = count; last = last } }

module _ (old new : lines.Reading) (left still_left : Option (List ℕ)) (n count : ℕ) (last : Moment) (fresh : IsFresh (reading old n count last)) where
  abbrev at : Place
  at = (reading old n count last).place

  begins : at.line ≡ 1 → at ≡ first_place
  begins one = (fresh one).0

  module _ (some : 0 < n) (t : LineTaken old new left still_left) (kept : length new.kept ≤ 65536) where
    size : length (old.kept ++ t.read) ≡ length t.line + length new.kept
    size = ap length t.parts ∙ length-append t.line new.kept

    reads : ReadsOn (reading old n count last) left still_left t.read
    reads = record { consumed = t.consumed; bounded = (let before = t.before in let within = t.within in let whole = size in omega (arith, before, within, whole, kept)) }

    -- a line that says nothing wrong
    pub says_line : (n_now count_now : ℕ) (last_now : Moment) (said : Line) → event_from n count last new.line ≡ Ok (event_of said)
        → n_now ≡ n + 1 → count_now ≡ events_counted count (event_of said) → last_now ≡ moment_behind last (event_of said) → count_now ≤ 100000
        → TakesLine (reading old n count last) (reading new n_now count_now last_now) left still_left said
    says_line n_now count_now last_now said is next counted moved few = record {
      read = t.read;
      line = t.line;
      going = t.going;
      consumed = t.consumed;
      parts = t.parts;
      whole = t.whole;
      some = t.some;
      says = λ more none. line_says at new.line t.line more some begins (t.first more none)
          ∙ ap (λ r. on_line n r (λ e. contents_from (behind_line at (length t.line) e) more)) is
          ∙ ap (λ (p : Place). with_events (event_of said) (contents_from p more)) (sym place);
      before = t.before;
      within = t.within;
      kept = kept;
      later = λ one. omega (arith, one, next, some);
      count = counted;
      few = few;
    }
      where
        place : (reading new n_now count_now last_now).place ≡ behind_line at (length t.line) (event_of said)
        place i = record { line = next i; before = t.before i; count = counted i; last = moved i }

    nothing_behind : (more : List ℕ) → (IsAtEnd still_left → more ≡ []) → new.unfed ≡ true → new.kept ++ more ≡ []
    nothing_behind more none unfed =
        elim t.whole [
          | inl fed ↦ absurd (let k : true ≡ false = sym unfed ∙ fed.1 in cc)
          | inr ends ↦ ap (λ (k : List ℕ). k ++ more) ends.1 ∙ none ends.2
        ]

    -- a line that is at fault, or that there was no memory for
    pub says_fault : (faults now_faults : ℕ) → now_faults ≡ faults → (e : TakeFault) → FailsAt e n (event_from n count last new.line)
        → StopsAt e (reading old n count last) left still_left faults now_faults
    says_fault faults now_faults same fault.Memory f = ((t.read, reads), t.going, same)
    says_fault faults now_faults same (fault.Input found) f = (
      record {
        read = t.read;
        reads = reads;
        says = λ more none.
            ap (λ (o : List ℕ). contents_from at (o ++ more)) t.parts
            ∙ ap (contents_from at) (append_assoc t.line new.kept more)
            ∙ line_says at new.line t.line (new.kept ++ more) some begins (t.first (new.kept ++ more) (nothing_behind more none))
            ∙ ap (λ r. on_line n r (λ e. contents_from (behind_line at (length t.line) e) (new.kept ++ more))) f.1
            ∙ ap (λ (x : InputFault). record { events = []; fault = Some x }) (sym f.2);
      },
      t.going,
      same,
    )
    says_fault faults now_faults same fault.Source f = absurd f

  -- a line that passes a limit
  pub limit_stops : (f : LineFault) (found : InputFault) → LimitPassed old left still_left f → found ≡ record { line = n; column = f.column; reason = f.reason }
      → FindsFault (reading old n count last) left still_left found
  limit_stops f found h is = record {
    read = h.read;
    reads = record { consumed = h.consumed; bounded = h.bounded };
    says = λ more none. limit_says at ((old.kept ++ h.read) ++ more) f begins (h.passes more)
        ∙ ap (λ (x : InputFault). record { events = []; fault = Some x }) (sym is);
  }

  -- a fault of the source
  pub failed_stops : old.limits ≡ record { line = 16384; file = 67108864 } → (t : lines.TakesFront old new left still_left) → new.kept ≡ []
      → ReadsOn (reading old n count last) left still_left t.takes.read × (list_all no_feed (old.kept ++ t.takes.read) ≡ true)
  failed_stops limits t none =
      let within : old.before + length new.line ≤ 67108864 = subst (λ (l : Limits). old.before + length new.line ≤ l.file) limits t.takes.within in
      let empty : length new.kept ≡ 0 = ap length none in (
        record { consumed = t.takes.consumed; bounded = front_bounded old new t.takes.read t.takes.parts within (omega (arith, empty)) },
        ap (list_all no_feed) (t.takes.parts ∙ ap (λ (k : List ℕ). new.line ++ k) none ∙ append-nil new.line) ∙ t.takes.feedless,
      )

  none_left : (xs ys : List ℕ) → xs ++ ys ≡ [] → (xs ≡ []) × (ys ≡ [])
  none_left [] ys e = (refl, e)
  none_left (x ∷ xs) ys e = absurd cc

  -- the input is at its end
  pub ends : n ≢ 1 → new.kept ≡ []
      → (IsAtEnd still_left × TakesFrom old.limits old.before old.kept [] [] left still_left) ⊎ ((old.unfed ≡ true) × (still_left ≡ left))
      → (n_now count_now : ℕ) (last_now : Moment) → TakesEnd (reading old n count last) (reading new n_now count_now last_now) left still_left
  ends other none ended n_now count_now last_now = record {
    kept = none;
    says = end_says at other;
    ended = elim ended [
      | inl done ↦
          let empty = none_left old.kept done.1.read done.1.parts in
          inl (empty.0, subst (Consumes left still_left) empty.1 done.1.consumed, done.0)
      | inr before ↦ inr before
    ];
  }

  -- an empty file
  pub nothing_stops : (found : InputFault) → n ≡ 1 → found ≡ record { line = n; column = 1; reason = reasons.Missing }
      → (IsAtEnd still_left × TakesFrom old.limits old.before old.kept [] [] left still_left) ⊎ ((old.unfed ≡ true) × (still_left ≡ left))
      → FindsFault (reading old n count last) left still_left found × (old.unfed ≡ false)
  nothing_stops found one is ended =
      elim ended [
        | inl done ↦
            let empty = none_left old.kept done.1.read done.1.parts in
            let before : old.before ≡ 0 = ap (λ (p : Place). p.before) (fresh one).0 in
            let none : length (old.kept ++ done.1.read) ≡ 0 = ap length done.1.parts in (
              record {
                read = done.1.read;
                reads = record { consumed = done.1.consumed; bounded = omega (arith, before, none) };
                says = λ more at_end.
                    ap (λ (o : List ℕ). contents_from at (o ++ more)) done.1.parts
                    ∙ ap (contents_from at) (at_end done.0)
                    ∙ none_says at one
                    ∙ ap (λ (x : InputFault). record { events = []; fault = Some x }) (sym is);
              },
              (fresh one).1,
            )
        | inr before ↦ absurd (let k : true ≡ false = sym before.0 ∙ (fresh one).1 in cc)
      ]

-- what was taken is no end
pub takes_said : (old new : Reading) (left still_left : Option (List ℕ)) (faults now_faults : ℕ) (said : Line) → said ≢ line.End → TakesLine old new left still_left said → now_faults ≡ faults
    → Takes (Ok said) old new left still_left faults now_faults
takes_said old new left still_left faults now_faults line.End some t same = absurd (some refl)
takes_said old new left still_left faults now_faults line.Passed some t same = (t, same)
takes_said old new left still_left faults now_faults (line.Said now event) some t same = (t, same)

-- what the line that was taken answers
pub counted_takes : (old new : lines.Reading) (left still_left : Option (List ℕ)) (n count : ℕ) (last : Moment) → IsFresh (reading old n count last) → 0 < n → LineTaken old new left still_left → length new.kept ≤ 65536
    → (n_now count_now : ℕ) (last_now : Moment) → count_now ≤ 100000 → (faults now_faults : ℕ) → now_faults ≡ faults → (r : Result Line TakeFault)
    → IfOk r (λ said. event_from n count last new.line ≡ Ok (event_of said)) → IfOk r (λ said. said ≢ line.End) → OnOk r (n_now ≡ n + 1)
    → IfOk r (λ said. count_now ≡ events_counted count (event_of said)) → IfOk r (λ said. last_now ≡ moment_behind last (event_of said)) → IfErr r (λ e. FailsAt e n (event_from n count last new.line))
    → Takes r (reading old n count last) (reading new n_now count_now last_now) left still_left faults now_faults
counted_takes old new left still_left n count last fresh some t kept n_now count_now last_now few faults now_faults same (Ok said) is other next counted moved fails =
    takes_said (reading old n count last) (reading new n_now count_now last_now) left still_left faults now_faults said other
    (says_line old new left still_left n count last fresh some t kept n_now count_now last_now said is next counted moved few) same
counted_takes old new left still_left n count last fresh some t kept n_now count_now last_now few faults now_faults same (Err e) is other next counted moved fails =
    says_fault old new left still_left n count last fresh some t kept faults now_faults same e fails

-- where the next line stands, as long as none is taken
pub keeps_place : (old new : lines.Reading) (n count : ℕ) → 0 < n → n ≤ old.before + 1 → old.before ≤ 67108864 → count ≤ 100000 → old.limits ≡ record { line = 16384; file = 67108864 } → new.limits ≡ old.limits → new.before ≡ old.before
    → (0 < n) × (n ≤ new.before + 1) × (new.before ≤ 67108864) × (count ≤ 100000) × (new.limits ≡ record { line = 16384; file = 67108864 })
keeps_place old new n count some low within few limits same before =
    (some, omega (arith, low, before), omega (arith, within, before), few, same ∙ limits)
