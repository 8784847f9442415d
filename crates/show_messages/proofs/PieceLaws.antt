-- What a line that was taken, or the front of one, says of an input.
use Rattle.std.proofs.Common.{◌≡◌, ◌≢◌, ℕ, ◌+◌, ◌-◌, ◌<◌, ◌≤◌, ◌⊎◌, true, false, List, [], ◌∷◌, ◌++◌, length, Option, Some, None, Result, Ok, Err, IfOk, IfErr, OnOk, refl, sym, ap, ◌∙◌, subst, append_assoc, append-nil, length-append, arith, inl, inr}
use Rattle.std.specs.List.{list_all}
use Rattle.std.specs.Io.KnownBytes.{Consumes, IsAtEnd}
use Rattle.input_lines.specs.Lines.{lines_of, no_feed}
use Rattle.input_lines.specs.Readers as lines
use Rattle.input_lines.specs.Taking.{BeginsUnfed, TakesFrom}
use Rattle.input_lines.specs.declared.fault.InputFault.{InputFault}
use Rattle.input_lines.specs.declared.taking.Limits.{Limits}
use Rattle.input_lines.proofs.TakenLines.{IsFirst, PassesLimit, alone_first, fed_first, file_passes, line_passes}
use Rattle.line_fields.specs.Fields.{fault_at}
use Rattle.line_fields.specs.declared.fault.LineFault.{LineFault}
use Rattle.line_fields.specs.declared.fault.LineReason.TheVariants as reasons
use Rattle.show_messages.specs.Messages.{Messages, behind_message_line, faulty_messages, line_in, message_behind, messages_at, on_message_line}
use Rattle.show_messages.specs.Pieces.{FailsAt, FindsFault, IsFed, Reading, ReadsOn, StopsAt, Takes, TakesEnd, TakesLine, message_of, messages_counted, messages_from, with_messages}
use Rattle.show_messages.specs.declared.lines.Line.{Line}
use Rattle.show_messages.specs.declared.lines.Line.TheVariants as line
use Rattle.show_messages.specs.declared.lines.TakeFault.{TakeFault}
use Rattle.show_messages.specs.declared.lines.TakeFault.TheVariants as fault
use Rattle.show_messages.specs.declared.lines.Place.{Place}

-- ---- what a line says

-- what octets say from a line on that was taken
line_says : (p : Place) (text line more : List ℕ) → IsFirst p.before text line more
    → messages_from p (line ++ more) ≡ on_message_line p (message_behind p.count text) (λ count. messages_from (behind_message_line p (length line) count) more)
unfolding messages_at line_in
line_says p text line more is = rw (is.first, is.bare, is.within) refl

-- what octets say whose first line passes a limit
limit_says : (p : Place) (octets : List ℕ) (f : LineFault) → PassesLimit p.before octets f → messages_from p octets ≡ faulty_messages p.line f
unfolding messages_at line_in
limit_says p octets f h = rw (h.first, h.long) refl

-- nothing is left
pub end_says : (p : Place) → messages_from p [] ≡ record { messages = []; fault = None }
unfolding lines_of messages_at
end_says p = refl

-- ---- what a reader of lines took

-- a line was taken, with its line feed where it has one
pub record LineTaken (old new : lines.Reading) (left still_left : Option (List ℕ)) : Type 0 where
  pub read : List ℕ
  pub line : List ℕ
  pub going : old.unfed ≡ false
  pub consumed : Consumes left still_left read
  pub parts : old.kept ++ read ≡ line ++ new.kept
  pub whole : (IsFed line × (new.unfed ≡ false)) ⊎ ((new.unfed ≡ true) × (new.kept ≡ []) × IsAtEnd still_left)
  pub some : 0 < length line
  pub before : new.before ≡ old.before + length line
  pub within : new.before ≤ 67108864
  pub short : length new.line ≤ 16384
  pub first : (more : List ℕ) → (new.unfed ≡ true → more ≡ []) → IsFirst old.before new.line line more

fed_taken : (old new : lines.Reading) (left still_left : Option (List ℕ)) → old.limits ≡ record { line = 16384; file = 67108864 } → lines.TakesLine old new left still_left → LineTaken old new left still_left
fed_taken old new left still_left limits t =
    let file : new.before ≤ 67108864 = subst (λ (l : Limits). new.before ≤ l.file) limits t.within in
    let short : length new.line ≤ 16384 = subst (λ (l : Limits). length new.line ≤ l.line) limits t.takes.short in
    let before = t.before in
    record {
      read = t.takes.read;
      line = new.line ++ 10 ∷ [];
      going = t.going;
      consumed = t.takes.consumed;
      parts = t.takes.parts ∙ sym (append_assoc new.line (10 ∷ []) new.kept);
      whole = inl ((new.line, refl, t.takes.feedless), t.fed);
      some = omega (arith, length-append new.line (10 ∷ []));
      before = omega (arith, length-append new.line (10 ∷ []), before);
      within = file;
      short = short;
      first = λ more none. fed_first old.before new.line more t.takes.feedless short (omega (arith, before, file));
    }

last_taken : (old new : lines.Reading) (left still_left : Option (List ℕ)) → old.limits ≡ record { line = 16384; file = 67108864 } → lines.TakesLast old new left still_left → LineTaken old new left still_left
last_taken old new left still_left limits t =
    let file : old.before + length new.line ≤ 67108864 = subst (λ (l : Limits). old.before + length new.line ≤ l.file) limits t.takes.within in
    let short : length new.line ≤ 16384 = subst (λ (l : Limits). length new.line ≤ l.line) limits t.takes.short in
    let before = t.before in
    record {
      read = t.takes.read;
      line = new.line;
      going = t.going;
      consumed = t.takes.consumed;
      parts = t.takes.parts ∙ ap (λ (k : List ℕ). new.line ++ k) (sym t.nothing);
      whole = inr (t.unfed, t.nothing, t.end_reached);
      some = t.some;
      before = before;
      within = omega (arith, before, file);
      short = short;
      first = λ more none. subst (IsFirst old.before new.line new.line) (sym (none t.unfed)) (alone_first old.before new.line t.takes.feedless short file t.some);
    }

pub line_taken : (old new : lines.Reading) (left still_left : Option (List ℕ)) → old.limits ≡ record { line = 16384; file = 67108864 } → lines.TakesLine old new left still_left ⊎ lines.TakesLast old new left still_left
    → LineTaken old new left still_left
line_taken old new left still_left limits (inl t) = fed_taken old new left still_left limits t
line_taken old new left still_left limits (inr t) = last_taken old new left still_left limits t

-- the front of a line was read, and the line passes a limit
pub record LimitPassed (old : lines.Reading) (left still_left : Option (List ℕ)) (f : LineFault) : Type 0 where
  pub read : List ℕ
  pub going : old.unfed ≡ false
  pub consumed : Consumes left still_left read
  pub bounded : old.before + length (old.kept ++ read) ≤ 67108864 + 65536
  pub passes : (more : List ℕ) → PassesLimit old.before ((old.kept ++ read) ++ more) f

-- as many octets were read as a file may have and a piece
pub front_bounded : (old new : lines.Reading) (read : List ℕ) → old.kept ++ read ≡ new.line ++ new.kept → old.before + length new.line ≤ 67108864 → length new.kept ≤ 65536
    → old.before + length (old.kept ++ read) ≤ 67108864 + 65536
front_bounded old new read parts within kept =
    let size : length (old.kept ++ read) ≡ length new.line + length new.kept = ap length parts ∙ length-append new.line new.kept in
    omega (arith, size, within, kept)

pub line_too_long : (old new : lines.Reading) (left still_left : Option (List ℕ)) → old.limits ≡ record { line = 16384; file = 67108864 } → lines.TakesFront old new left still_left → length new.line ≡ old.limits.line
    → BeginsUnfed new.kept → length new.kept ≤ 65536 → LimitPassed old left still_left (fault_at 16385 reasons.LineTooLong)
line_too_long old new left still_left limits t long other kept =
    let full : length new.line ≡ 16384 = long ∙ ap (λ (l : Limits). l.line) limits in
    let within : old.before + length new.line ≤ 67108864 = subst (λ (l : Limits). old.before + length new.line ≤ l.file) limits t.takes.within in
    record {
      read = t.takes.read;
      going = t.going;
      consumed = t.takes.consumed;
      bounded = front_bounded old new t.takes.read t.takes.parts within kept;
      passes = λ more. subst (λ (o : List ℕ). PassesLimit old.before o (fault_at 16385 reasons.LineTooLong))
          (sym (ap (λ (o : List ℕ). o ++ more) t.takes.parts ∙ append_assoc new.line new.kept more))
          (line_passes old.before new.line new.kept more t.takes.feedless full within other);
    }

pub file_too_long : (old new : lines.Reading) (left still_left : Option (List ℕ)) → old.limits ≡ record { line = 16384; file = 67108864 } → lines.TakesFront old new left still_left → old.before + length new.line ≡ old.limits.file
    → new.kept ≢ [] → (BeginsUnfed new.kept → length new.line < old.limits.line) → length new.kept ≤ 65536
    → LimitPassed old left still_left (fault_at (length new.line + 1) reasons.FileTooLong)
file_too_long old new left still_left limits t full some unless kept =
    let whole : old.before + length new.line ≡ 67108864 = full ∙ ap (λ (l : Limits). l.file) limits in
    let short : length new.line ≤ 16384 = subst (λ (l : Limits). length new.line ≤ l.line) limits t.takes.short in
    let below : BeginsUnfed new.kept → length new.line < 16384 = subst (λ (l : Limits). BeginsUnfed new.kept → length new.line < l.line) limits unless in
    let column : 67108865 - old.before ≡ length new.line + 1 = omega (arith, whole) in
    record {
      read = t.takes.read;
      going = t.going;
      consumed = t.takes.consumed;
      bounded = front_bounded old new t.takes.read t.takes.parts (omega (arith, whole)) kept;
      passes = λ more. subst (λ (o : List ℕ). PassesLimit old.before o (fault_at (length new.line + 1) reasons.FileTooLong))
          (sym (ap (λ (o : List ℕ). o ++ more) t.takes.parts ∙ append_assoc new.line new.kept more))
          (subst (λ (k : ℕ). PassesLimit old.before (new.line ++ (new.kept ++ more)) (fault_at k reasons.FileTooLong)) column
          (file_passes old.before new.line new.kept more t.takes.feedless short whole some below));
    }

-- ---- what taking a line answers

abbrev pub reading : lines.Reading → ℕ → ℕ → Reading
reading l n count = record { text = l.line; kept = l.kept; unfed = l.unfed; place = record { line = n; before = l.before; count = count } }

on_said : (p : Place) (said : Line) (text : List ℕ) (rest : ℕ → Messages) → said ≢ line.End → on_message_line p (Ok (message_of said text)) rest ≡ with_messages (message_of said text) (rest (messages_counted p.count said))
on_said p line.End text rest some = absurd (some refl)
on_said p line.Passed text rest some = refl
on_said p line.Message text rest some = refl

module _ (old new : lines.Reading) (left still_left : Option (List ℕ)) (n count : ℕ) where
  abbrev at : Place
  at = (reading old n count).place

  module _ (t : LineTaken old new left still_left) (kept : length new.kept ≤ 65536) where
    size : length (old.kept ++ t.read) ≡ length t.line + length new.kept
    size = ap length t.parts ∙ length-append t.line new.kept

    reads : ReadsOn (reading old n count) left still_left t.read
    reads = record { consumed = t.consumed; bounded = (let before = t.before in let within = t.within in let whole = size in omega (arith, before, within, whole, kept)) }

    -- a line that says nothing wrong
    says_line : (n_now count_now : ℕ) (said : Line) → said ≢ line.End → message_behind count new.line ≡ Ok (message_of said new.line)
        → n_now ≡ n + 1 → count_now ≡ messages_counted count said → TakesLine (reading old n count) (reading new n_now count_now) left still_left said
    says_line n_now count_now said other is next counted = record {
      read = t.read;
      line = t.line;
      going = t.going;
      consumed = t.consumed;
      parts = t.parts;
      whole = t.whole;
      some = t.some;
      says = λ more none. line_says at new.line t.line more (t.first more none)
          ∙ ap (λ r. on_message_line at r (λ c. messages_from (behind_message_line at (length t.line) c) more)) is
          ∙ on_said at said new.line (λ c. messages_from (behind_message_line at (length t.line) c) more) other
          ∙ ap (λ (p : Place). with_messages (message_of said new.line) (messages_from p more)) (sym place);
      before = t.before;
      within = t.within;
      kept = kept;
      count = counted;
    }
      where
        place : (reading new n_now count_now).place ≡ behind_message_line at (length t.line) (messages_counted count said)
        place i = record { line = next i; before = t.before i; count = counted i }

    nothing_behind : (more : List ℕ) → (IsAtEnd still_left → more ≡ []) → new.unfed ≡ true → new.kept ++ more ≡ []
    nothing_behind more none unfed =
        elim t.whole [
          | inl fed ↦ absurd (let k : true ≡ false = sym unfed ∙ fed.1 in cc)
          | inr ends ↦ ap (λ (k : List ℕ). k ++ more) ends.1 ∙ none ends.2
        ]

    -- a line that is at fault
    says_fault : (faults now_faults : ℕ) → now_faults ≡ faults → (e : TakeFault) → FailsAt e n (message_behind count new.line)
        → StopsAt e (reading old n count) left still_left faults now_faults
    says_fault faults now_faults same (fault.Input found) f = (
      record {
        read = t.read;
        reads = reads;
        says = λ more none.
            ap (λ (o : List ℕ). messages_from at (o ++ more)) t.parts
            ∙ ap (messages_from at) (append_assoc t.line new.kept more)
            ∙ line_says at new.line t.line (new.kept ++ more) (t.first (new.kept ++ more) (nothing_behind more none))
            ∙ ap (λ r. on_message_line at r (λ c. messages_from (behind_message_line at (length t.line) c) (new.kept ++ more))) f.1
            ∙ ap (λ (x : InputFault). record { messages = []; fault = Some x }) (sym f.2);
      },
      t.going,
      same,
    )
    says_fault faults now_faults same fault.Source f = absurd f

  -- a line that passes a limit
  pub limit_stops : (f : LineFault) (found : InputFault) → LimitPassed old left still_left f → found ≡ record { line = n; column = f.column; reason = f.reason }
      → FindsFault (reading old n count) left still_left found
  limit_stops f found h is = record {
    read = h.read;
    reads = record { consumed = h.consumed; bounded = h.bounded };
    says = λ more none. limit_says at ((old.kept ++ h.read) ++ more) f (h.passes more)
        ∙ ap (λ (x : InputFault). record { messages = []; fault = Some x }) (sym is);
  }

  -- a fault of the source
  pub failed_stops : old.limits ≡ record { line = 16384; file = 67108864 } → (t : lines.TakesFront old new left still_left) → new.kept ≡ []
      → (read : List ℕ) × ReadsOn (reading old n count) left still_left read × (list_all no_feed (old.kept ++ read) ≡ true)
  failed_stops limits t none =
      let within : old.before + length new.line ≤ 67108864 = subst (λ (l : Limits). old.before + length new.line ≤ l.file) limits t.takes.within in
      let empty : length new.kept ≡ 0 = ap length none in (
        t.takes.read,
        record { consumed = t.takes.consumed; bounded = front_bounded old new t.takes.read t.takes.parts within (omega (arith, empty)) },
        ap (list_all no_feed) (t.takes.parts ∙ ap (λ (k : List ℕ). new.line ++ k) none ∙ append-nil new.line) ∙ t.takes.feedless,
      )

  none_left : (xs ys : List ℕ) → xs ++ ys ≡ [] → (xs ≡ []) × (ys ≡ [])
  none_left [] ys e = (refl, e)
  none_left (x ∷ xs) ys e = absurd cc

  -- the input is at its end
  pub ends : (IsAtEnd still_left × TakesFrom old.limits old.before old.kept [] [] left still_left) ⊎ ((old.unfed ≡ true) × (still_left ≡ left))
      → (n_now count_now : ℕ) → TakesEnd (reading old n count) (reading new n_now count_now) left still_left
  ends ended n_now count_now = record {
    ended = elim ended [
      | inl done ↦
          let empty = none_left old.kept done.1.read done.1.parts in
          inl (empty.0, subst (Consumes left still_left) empty.1 done.1.consumed, done.0)
      | inr before ↦ inr before
    ];
  }

  -- what was taken is no end
  takes_said : (n_now count_now : ℕ) (faults now_faults : ℕ) (said : Line) → said ≢ line.End → TakesLine (reading old n count) (reading new n_now count_now) left still_left said → now_faults ≡ faults
      → Takes (Ok said) (reading old n count) (reading new n_now count_now) left still_left faults now_faults
  takes_said n_now count_now faults now_faults line.End some t same = absurd (some refl)
  takes_said n_now count_now faults now_faults line.Passed some t same = (t, same)
  takes_said n_now count_now faults now_faults line.Message some t same = (t, same)

  -- what the line that was taken answers
  pub counted_takes : LineTaken old new left still_left → length new.kept ≤ 65536 → (n_now count_now : ℕ) → (faults now_faults : ℕ) → now_faults ≡ faults → (r : Result Line TakeFault)
      → IfOk r (λ said. message_behind count new.line ≡ Ok (message_of said new.line)) → IfOk r (λ said. said ≢ line.End) → OnOk r (n_now ≡ n + 1)
      → IfOk r (λ said. count_now ≡ messages_counted count said) → IfErr r (λ e. FailsAt e n (message_behind count new.line))
      → Takes r (reading old n count) (reading new n_now count_now) left still_left faults now_faults
  counted_takes t kept n_now count_now faults now_faults same (Ok said) is other next counted fails =
      takes_said n_now count_now faults now_faults said other (says_line t kept n_now count_now said other is next counted) same
  counted_takes t kept n_now count_now faults now_faults same (Err e) is other next counted fails = says_fault t kept faults now_faults same e fails

-- where the next line stands, as long as none is taken
pub keeps_place : (old new : lines.Reading) (n count : ℕ) → 0 < n → n ≤ old.before + 1 → old.before ≤ 67108864 → count ≤ 100000 → old.limits ≡ record { line = 16384; file = 67108864 } → new.limits ≡ old.limits → new.before ≡ old.before
    → (0 < n) × (n ≤ new.before + 1) × (new.before ≤ 67108864) × (count ≤ 100000) × (new.limits ≡ record { line = 16384; file = 67108864 })
keeps_place old new n count some low within few limits same before =
    (some, omega (arith, low, before), omega (arith, within, before), few, same ∙ limits)
