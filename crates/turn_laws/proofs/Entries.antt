-- What a call that is not refused makes of an association, and of the numbers of its counters.
use Rattle.turn_laws.specs.Owned.{column_half}
use Rattle.turn_laws.specs.Resumed.{resumed_starts}
use Rattle.std.proofs.Common.{◌≡◌, ℕ, ◌+◌, ◌-◌, ◌≤◌, ◌==◌, min, max, Bool, true, false, Option, Some, None, List, [], ◌∷◌, ◌++◌, length, refl, ap, sym, ◌∙◌, subst, arith, if◌then◌else◌}
use Rattle.std.proofs.lemmas.Bool.{eqb-true, eqb-false}
use Rattle.std.proofs.lemmas.List.{length-map, map-append}
use Rattle.std.specs.Option.{option_map}
use Rattle.keeper_book.proofs.EntryLemmas.{entry_of-edit_other, entry_of-edit_same}
use Rattle.keeper_book.specs.Book.{Book, Entry, book_entered, closed, edit_at, entry_of, entry_raised, fresh, raised_at, settled, taken_over, settled_highs}
use Rattle.keeper_book.specs.CounterEnds.{end_of}
use Rattle.keeper_book.specs.Counters.{counter_named, five_at, with_five}
use Rattle.keeper_book.specs.declared.calls.KeeperAsk.{KeeperAsk}
use Rattle.keeper_book.specs.declared.calls.KeeperAsk.TheVariants as ask
use Rattle.keeper_book.specs.declared.counters.Counter.{Counter}
use Rattle.keeper_book.specs.declared.counters.Counter.TheVariants as counter
use Rattle.keeper_book.specs.declared.counters.Five.{Five}
use Rattle.keeper_book.specs.declared.records.Record.{Record}
use Rattle.turn_laws.proofs.Columns.{goes_on-epoch, goes_on-first, goes_on-higher, goes_on-refl, length-append_one, mark-high, mark-with_epoch, rising-none, with_epoch, rising-one}
use Rattle.turn_laws.proofs.Firsts.{IsFirstHolding}
use Rattle.turn_laws.specs.Acts.{begun_theirs, holding_begun, holding_settled, Opened, half_begun}
use Rattle.turn_laws.specs.Columns.{Column, ColumnGoesOn, IsRising, column_mark, nothing}
use Rattle.turn_laws.specs.Holdings.{IsNew}
use Rattle.turn_laws.specs.Places.{column_ours, mirrored, start_of}
use Rattle.turn_rules.specs.Held.{first_some, is_counter}

-- what a call makes of the association of a responder's SPI
abbrev pub entry_after : ℕ → KeeperAsk → Option Entry → Option Entry
entry_after spir (ask.Enter sa) old = first_some old (if sa.spir == spir then Some (fresh sa) else None)
entry_after spir (ask.TakeOver asked member) old = if asked == spir then option_map (taken_over member) old else old
entry_after spir (ask.Cover asked kind child epoch upto) old = if asked == spir then option_map (raised_at (counter_named kind child) upto) old else old
entry_after spir (ask.Lease pool count) old = old
entry_after spir (ask.Settle ticket asked sa member) old = first_some (if asked == spir then option_map closed old else old) (if sa.spir == spir then Some (settled sa member) else None)
entry_after spir (ask.Look ticket) old = old

entry_of-append : (spir : ℕ) (es : List Entry) (x : Entry) → entry_of spir (es ++ x ∷ []) ≡ first_some (entry_of spir es) (if x.sa.spir == spir then Some x else None)
entry_of-append spir [] x = refl
entry_of-append spir (e ∷ es) x = by_test (entry_of-append spir es x) (e.sa.spir == spir) refl
  where
    by_test : entry_of spir (es ++ x ∷ []) ≡ first_some (entry_of spir es) (if x.sa.spir == spir then Some x else None) → (b : Bool) → (e.sa.spir == spir) ≡ b → (if e.sa.spir == spir then Some e else entry_of spir (es ++ x ∷ [])) ≡ first_some (if e.sa.spir == spir then Some e else entry_of spir es) (if x.sa.spir == spir then Some x else None)
    by_test rest true t = rw t
    by_test rest false t = rw t rest

raised_keeps : (c : Option Counter) (upto : ℕ) (e : Entry) → (raised_at c upto e).sa.spir ≡ e.sa.spir
raised_keeps None upto e = refl
raised_keeps (Some c) upto e = refl

edited_entry : (asked spir : ℕ) (edit : Entry → Entry) → ((e : Entry) → (edit e).sa.spir ≡ e.sa.spir) → (es : List Entry) → entry_of spir (edit_at asked edit es) ≡ (if asked == spir then option_map edit (entry_of spir es) else entry_of spir es)
edited_entry asked spir edit keeps es = by_test (asked == spir) refl
  where
    by_test : (b : Bool) → (asked == spir) ≡ b → entry_of spir (edit_at asked edit es) ≡ (if asked == spir then option_map edit (entry_of spir es) else entry_of spir es)
    by_test true t =
        let same : asked ≡ spir = eqb-true asked spir t in
        rw t (subst (λ a. entry_of spir (edit_at a edit es) ≡ option_map edit (entry_of spir es)) (sym same) (entry_of-edit_same spir edit keeps es))
    by_test false t = rw t (entry_of-edit_other asked spir edit keeps (λ same. eqb-false asked spir t (sym same)) es)

pub entry-entered : (spir : ℕ) (book : Book) (asked : KeeperAsk) → entry_of spir (book_entered book asked).entries ≡ entry_after spir asked (entry_of spir book.entries)
entry-entered spir book (ask.Enter sa) = entry_of-append spir book.entries (fresh sa)
entry-entered spir book (ask.TakeOver asked member) = edited_entry asked spir (taken_over member) (λ e. refl) book.entries
entry-entered spir book (ask.Cover asked kind child epoch upto) = edited_entry asked spir (raised_at (counter_named kind child) upto) (raised_keeps (counter_named kind child) upto) book.entries
entry-entered spir book (ask.Lease pool count) = refl
entry-entered spir book (ask.Settle ticket asked sa member) =
    entry_of-append spir (edit_at asked closed book.entries) (settled sa member)
    ∙ ap (λ x. first_some x (if sa.spir == spir then Some (settled sa member) else None)) (edited_entry asked spir closed (λ e. refl) book.entries)
entry-entered spir book (ask.Look ticket) = refl

pub five_at-with_five : (d c : Counter) (n : ℕ) (five : Five) → five_at (with_five d n five) c ≡ (if is_counter d c then n else five_at five c)
five_at-with_five counter.EspOut counter.EspOut n five = refl
five_at-with_five counter.EspIn counter.EspIn n five = refl
five_at-with_five counter.Iv counter.Iv n five = refl
five_at-with_five counter.Ask counter.Ask n five = refl
five_at-with_five counter.Answer counter.Answer n five = refl
five_at-with_five d c n five = refl

pub is_counter-same : (c : Counter) → is_counter c c ≡ true
is_counter-same counter.EspOut = refl
is_counter-same counter.EspIn = refl
is_counter-same counter.Iv = refl
is_counter-same counter.Ask = refl
is_counter-same counter.Answer = refl

pub is_counter-true : (c d : Counter) → is_counter c d ≡ true → c ≡ d
is_counter-true counter.EspOut counter.EspOut e = refl
is_counter-true counter.EspIn counter.EspIn e = refl
is_counter-true counter.Iv counter.Iv e = refl
is_counter-true counter.Ask counter.Ask e = refl
is_counter-true counter.Answer counter.Answer e = refl
is_counter-true c d e = absurd (cc)

-- an association starts each counter within its end
pub within_end : (sa : Record) (c : Counter) → five_at sa.starts c ≤ end_of sa c
within_end sa counter.EspOut = sa.starts_within.esp_out
within_end sa counter.EspIn = sa.starts_within.esp_in
within_end sa counter.Iv = sa.starts_within.iv
within_end sa counter.Ask = sa.starts_within.ask
within_end sa counter.Answer = sa.starts_within.answer

end-mirrored : (sa : Record) (c : Counter) → end_of sa (mirrored c) ≡ end_of sa c
end-mirrored sa counter.EspOut = refl
end-mirrored sa counter.EspIn = refl
end-mirrored sa counter.Iv = refl
end-mirrored sa counter.Ask = refl
end-mirrored sa counter.Answer = refl

-- what is settled holds no less than its starts
settled-rises : (sa : Record) (c : Counter) → five_at sa.starts c ≤ five_at (settled_highs sa.starts) c
settled-rises sa counter.EspOut = omega arith
settled-rises sa counter.EspIn = omega arith
settled-rises sa counter.Iv = omega arith
settled-rises sa counter.Ask = omega arith
settled-rises sa counter.Answer = omega arith

pub first-settled : (sa : Record) (c : Counter) → IsFirstHolding (holding_settled c sa)
first-settled sa c = record { epoch = refl; rising = settled-rises sa c; from_base = omega arith; unused = refl }

-- The numbers of an association that was half open go on as it is settled: the IVs from the first ones, which begin there, and the others begin.
pub goes_on-settled : (c : Counter) (opened : Opened) (sa : Record) (member : ℕ) → sa.starts ≡ resumed_starts → ColumnGoesOn (column_half c (Some opened)) (column_ours c (column_half c (Some opened)) (Some (settled sa member)))
goes_on-settled counter.Iv opened sa member starts =
    subst (λ (five : Five). ColumnGoesOn (column_half counter.Iv (Some opened)) (record { bases = five.iv ∷ []; high = five_at (settled_highs five) counter.Iv; end = end_of sa counter.Iv })) (sym starts)
    (goes_on-higher (column_half counter.Iv (Some opened)) (five_at (settled_highs resumed_starts) counter.Iv) (rising-one half_begun.base half_begun.high half_begun.end (omega arith)) (omega arith))
goes_on-settled counter.EspOut opened sa member starts = goes_on-first (column_ours counter.EspOut nothing (Some (settled sa member))) (rising-one (five_at sa.starts counter.EspOut) (five_at (settled_highs sa.starts) counter.EspOut) (end_of sa counter.EspOut) (settled-rises sa counter.EspOut))
goes_on-settled counter.EspIn opened sa member starts = goes_on-first (column_ours counter.EspIn nothing (Some (settled sa member))) (rising-one (five_at sa.starts counter.EspIn) (five_at (settled_highs sa.starts) counter.EspIn) (end_of sa counter.EspIn) (settled-rises sa counter.EspIn))
goes_on-settled counter.Ask opened sa member starts = goes_on-first (column_ours counter.Ask nothing (Some (settled sa member))) (rising-one (five_at sa.starts counter.Ask) (five_at (settled_highs sa.starts) counter.Ask) (end_of sa counter.Ask) (settled-rises sa counter.Ask))
goes_on-settled counter.Answer opened sa member starts = goes_on-first (column_ours counter.Answer nothing (Some (settled sa member))) (rising-one (five_at sa.starts counter.Answer) (five_at (settled_highs sa.starts) counter.Answer) (end_of sa counter.Answer) (settled-rises sa counter.Answer))

pub first-theirs : (sa : Record) (c : Counter) → IsFirstHolding (begun_theirs c sa)
first-theirs sa c = record { epoch = refl; rising = start_within sa c; from_base = omega arith; unused = refl }
  where
    start_within : (sa : Record) (c : Counter) → start_of sa c ≤ end_of sa c
    start_within sa c = subst (λ n. start_of sa c ≤ n) (end-mirrored sa c) (within_end sa (mirrored c))

module _ (c : Counter) where
  column-taken_over : (member : ℕ) (e : Entry) → column_ours c nothing (Some (taken_over member e)) ≡ with_epoch (column_ours c nothing (Some e))
  column-taken_over member e i = record { bases = map-append (λ (five : Five). five_at five c) e.bases (e.highs ∷ []) i; high = five_at e.highs c; end = end_of e.sa c }

  raised_high : (d : Counter) (upto : ℕ) (e : Entry) → five_at e.highs c ≤ five_at (entry_raised d upto e).highs c
  raised_high d upto e = by_test (is_counter d c) refl
    where
      by_test : (b : Bool) → is_counter d c ≡ b → five_at e.highs c ≤ five_at (entry_raised d upto e).highs c
      by_test true t =
          let same : d ≡ c = is_counter-true d c t in
          let is : five_at (entry_raised d upto e).highs c ≡ max (five_at e.highs d) (min upto (end_of e.sa d)) = five_at-with_five d c (max (five_at e.highs d) (min upto (end_of e.sa d))) e.highs ∙ rw t in
          let at : five_at e.highs d ≡ five_at e.highs c = ap (five_at e.highs) same in
          omega arith
      by_test false t =
          let is : five_at (entry_raised d upto e).highs c ≡ five_at e.highs c = five_at-with_five d c (max (five_at e.highs d) (min upto (end_of e.sa d))) e.highs ∙ rw t in
          omega arith

  goes_on-raised : (d : Option Counter) (upto : ℕ) (e : Entry) → IsRising (column_ours c nothing (Some e)) → ColumnGoesOn (column_ours c nothing (Some e)) (column_ours c nothing (Some (raised_at d upto e)))
  goes_on-raised None upto e rising = goes_on-refl (column_ours c nothing (Some e)) rising
  goes_on-raised (Some d) upto e rising = goes_on-higher (column_ours c nothing (Some e)) (five_at (entry_raised d upto e).highs c) rising (raised_high d upto e)

  goes_on-taken_over : (member : ℕ) (e : Entry) → IsRising (column_ours c nothing (Some e)) → ColumnGoesOn (column_ours c nothing (Some e)) (column_ours c nothing (Some (taken_over member e)))
  goes_on-taken_over member e rising = subst (λ col. ColumnGoesOn (column_ours c nothing (Some e)) col) (sym (column-taken_over member e)) (goes_on-epoch (column_ours c nothing (Some e)) rising)

  -- The cluster's column goes on, where nothing is half open under the SPI of what is entered, and what is settled goes on from what is half open.
  abbrev pub IsFreeFor : KeeperAsk → ℕ → Column → Type 0
  IsFreeFor (ask.Enter sa) spir begun = sa.spir ≡ spir → begun ≡ nothing
  IsFreeFor (ask.Settle ticket asked sa member) spir begun = sa.spir ≡ spir → ColumnGoesOn begun (column_ours c begun (Some (settled sa member)))
  IsFreeFor asked spir begun = Unit {0}

  pub goes_on-ours : (begun : Column) (spir : ℕ) (asked : KeeperAsk) → IsFreeFor asked spir begun → (old : Option Entry) → IsRising (column_ours c begun old) → ColumnGoesOn (column_ours c begun old) (column_ours c begun (entry_after spir asked old))
  goes_on-ours begun spir (ask.Enter sa) free (Some e) rising = goes_on-refl (column_ours c begun (Some e)) rising
  goes_on-ours begun spir (ask.Enter sa) free None rising = by_test (sa.spir == spir) refl
    where
      by_test : (b : Bool) → (sa.spir == spir) ≡ b → ColumnGoesOn begun (column_ours c begun (if b then Some (fresh sa) else None))
      by_test true t = subst (λ column. ColumnGoesOn column (column_ours c begun (Some (fresh sa)))) (sym (free (eqb-true sa.spir spir t))) (goes_on-first (column_ours c begun (Some (fresh sa))) (rising-none (five_at sa.starts c) (end_of sa c)))
      by_test false t = goes_on-refl begun rising
  goes_on-ours begun spir (ask.TakeOver asked member) free old rising = by_test (asked == spir) old rising
    where
      by_test : (b : Bool) (old : Option Entry) → IsRising (column_ours c begun old) → ColumnGoesOn (column_ours c begun old) (column_ours c begun (if b then option_map (taken_over member) old else old))
      by_test false old rising = goes_on-refl (column_ours c begun old) rising
      by_test true None rising = goes_on-refl begun rising
      by_test true (Some e) rising = goes_on-taken_over member e rising
  goes_on-ours begun spir (ask.Cover asked kind child epoch upto) free old rising = by_test (asked == spir) old rising
    where
      by_test : (b : Bool) (old : Option Entry) → IsRising (column_ours c begun old) → ColumnGoesOn (column_ours c begun old) (column_ours c begun (if b then option_map (raised_at (counter_named kind child) upto) old else old))
      by_test false old rising = goes_on-refl (column_ours c begun old) rising
      by_test true None rising = goes_on-refl begun rising
      by_test true (Some e) rising = goes_on-raised (counter_named kind child) upto e rising
  goes_on-ours begun spir (ask.Lease pool count) free old rising = goes_on-refl (column_ours c begun old) rising
  goes_on-ours begun spir (ask.Settle ticket asked sa member) free (Some e) rising = by_test (asked == spir)
    where
      by_test : (b : Bool) → ColumnGoesOn (column_ours c begun (Some e)) (column_ours c begun (first_some (if b then option_map closed (Some e) else Some e) (if sa.spir == spir then Some (settled sa member) else None)))
      by_test true = goes_on-refl (column_ours c begun (Some e)) rising
      by_test false = goes_on-refl (column_ours c begun (Some e)) rising
  goes_on-ours begun spir (ask.Settle ticket asked sa member) free None rising = by_test (asked == spir) (sa.spir == spir) refl
    where
      by_test : (b d : Bool) → (sa.spir == spir) ≡ d → ColumnGoesOn begun (column_ours c begun (first_some (if b then option_map closed None else None) (if d then Some (settled sa member) else None)))
      by_test true true t = free (eqb-true sa.spir spir t)
      by_test false true t = free (eqb-true sa.spir spir t)
      by_test true false t = goes_on-refl begun rising
      by_test false false t = goes_on-refl begun rising
  goes_on-ours begun spir (ask.Look ticket) free old rising = goes_on-refl (column_ours c begun old) rising

  -- the epoch that a takeover begins is held by nobody yet
  pub new-taken_over : (member : ℕ) (e : Entry) → IsNew (column_ours c nothing (Some e)) (column_ours c nothing (Some (taken_over member e))) (holding_begun c (record { epoch = length e.bases + 1; bases = e.highs; sa = e.sa }))
  new-taken_over member e = subst (λ col. IsNew was col (holding_begun c (record { epoch = length e.bases + 1; bases = e.highs; sa = e.sa }))) (sym (column-taken_over member e)) (record {
    next_epoch = ap (λ n. n + 1) (sym count);
    of_column = record {
      some = omega arith;
      begun = let a : length (with_epoch was).bases ≡ length was.bases + 1 = longer in let b : length was.bases ≡ length e.bases = count in omega arith;
      base =
          let at : column_mark (with_epoch was) (length e.bases + 1 - 1) ≡ column_mark was (length e.bases + 1 - 1) = mark-with_epoch was (length e.bases + 1 - 1) in
          at ∙ mark-high was (length e.bases + 1 - 1) (let b : length was.bases ≡ length e.bases = count in omega arith);
      high =
          let at : column_mark (with_epoch was) (length e.bases + 1) ≡ column_mark was (length e.bases + 1) = mark-with_epoch was (length e.bases + 1) in
          let top : column_mark was (length e.bases + 1) ≡ was.high = mark-high was (length e.bases + 1) (let b : length was.bases ≡ length e.bases = count in omega arith) in
          omega arith;
      end = refl;
      from_base = omega arith;
      above_used = tt;
    };
    unused = refl;
  })
    where
      was : Column
      was = column_ours c nothing (Some e)

      count : length was.bases ≡ length e.bases
      count = length-map e.bases (λ (five : Five). five_at five c)

      longer : length (with_epoch was).bases ≡ length was.bases + 1
      longer = length-append_one was.bases was.high
