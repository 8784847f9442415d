-- How a run ends: each way out of its loop is a row of the table.
use Rattle.std.proofs.Common.{◌≡◌, ℕ, ◌+◌, ◌≤◌, ◌⊎◌, true, false, List, [], ◌∷◌, ◌++◌, length, take, Option, Some, Result, Ok, Err, IfOk, refl, sym, ap, ◌∙◌, subst, append_assoc, append-nil, inl, inr}
use Rattle.std.proofs.KnownBytes.{Appends-nil, Appends-trans}
use Rattle.std.proofs.Math.Seq.{take-append-add, take-length}
use Rattle.std.specs.Io.KnownBytes.{Appends}
use Rattle.call_ends.specs.Endings.{Finishes}
use Rattle.call_ends.specs.Jobs.{IsBounded}
use Rattle.call_ends.specs.Outside.{AnyFault, IsFront, NoneFailed, Outside, Stream, octets_told}
use Rattle.call_ends.specs.Streaming.{Streams, WorksWhole, streaming}
use Rattle.call_ends.specs.declared.streaming.Stop.{Stop}
use Rattle.call_ends.specs.declared.streaming.Stop.TheVariants as stop
use Rattle.events.specs.Events.{PlainEvent}
use Rattle.events.specs.declared.turn.Turn.{Turn}
use Rattle.event_text.specs.Input.{Contents}
use Rattle.event_text.specs.Pieces.{HasRead, Reading, StopsAt}
use Rattle.event_text.specs.declared.read_fault.TakeFault.TheVariants as why_none
use Rattle.ha_base.specs.Faults.{Rose}
use Rattle.ha_base.specs.declared.limits.TheConstants.{INPUT_OCTETS}
use Rattle.ha_base.specs.declared.outside.Moment.{Moment}
use Rattle.input_lines.specs.Lines.{with_line_feeds}
use Rattle.input_lines.specs.declared.fault.InputFault.{InputFault}
use Rattle.report_text.specs.Report.{report, report_head, turns_text}
use Rattle.word_text.specs.Ends.{end_line}
use Rattle.run_lines.specs.Played.{AllButNewest, IsBegun, IsPlayed, IsPlayedSoFar, playing, titles}
use Rattle.call_ends.specs.Writes.{Writes}
use Rattle.run_lines.specs.Writes.{newest_text}
use Rattle.run_lines.proofs.ReadLaws.{AllTold, HaveTold, IsPlaying, head-newest, lines_told, nothing_follows, nothing_told, rest_told, turns_text-none}

all_front : (octets : List ℕ) → IsFront octets octets
all_front octets = (length octets, sym (take-length octets))

more_front : (front text : List ℕ) (n : ℕ) → IsFront (front ++ take n text) (front ++ text)
more_front front text n = (length front + n, sym (take-append-add front text n))

less_front : (front text : List ℕ) → IsFront front (front ++ text)
less_front front text = (length front + 0, sym (take-append-add front text 0 ∙ append-nil front))

before_newest : (past newest : List Turn) (turn : Turn) (more : List ℕ) → newest ≡ turn ∷ past → AllButNewest newest ((report_head ++ turns_text past) ++ more)
before_newest past newest turn more is = subst (λ (p : List Turn). AllButNewest p ((report_head ++ turns_text past) ++ more)) (sym is) (less_front (report_head ++ turns_text past) more)

-- the turns stand there
all_but_newest : (past : List Turn) (more : List ℕ) → AllButNewest past ((report_head ++ turns_text past) ++ more)
all_but_newest [] more = tt
all_but_newest (turn ∷ past) more = subst (IsFront (report_head ++ turns_text past))
    (sym (append_assoc (report_head ++ turns_text past) (newest_text (turn ∷ past)) more) ∙ ap (λ (t : List ℕ). t ++ more) (head-newest past (turn ∷ past) turn refl))
    (less_front (report_head ++ turns_text past) (newest_text (turn ∷ past) ++ more))

all_written : (past : List Turn) → AllButNewest past (report_head ++ turns_text past)
all_written past = subst (AllButNewest past) (append-nil (report_head ++ turns_text past)) (all_but_newest past [])

module _ (Holds Cut : List Turn → Type 0) (weaken : (trace : List Turn) → Holds trace → Cut trace) (old new : Outside) where
  -- Some octets are a front of the turns' text, or of the whole report, where no event is left. No more than the newest turn is cut.
  abbrev Fronts : (past : List Turn) → Contents → List ℕ → Type 0
  Fronts past rest output = (IsFront output (report_head ++ turns_text past) ⊎ ((rest.events ≡ []) × IsFront output (report past))) × AllButNewest past output

  begun : (H : List Turn → Type 0) (past : List Turn) (t : HaveTold old.input.octets new.input.octets past) (output : List ℕ) → Fronts past t.rest output → H past
      → IsBounded t.input × IsBegun H (t.input ++ octets_told new.input.octets) output
  begun H past t output front holds = (t.bounded, record { trace = past; rest = t.rest; events = t.events; front = front.0; written = front.1; holds = holds })

  -- memory ran out
  pub memory_stops : (past : List Turn) (t : HaveTold old.input.octets new.input.octets past) (output : List ℕ) → Appends old.output.octets new.output.octets output → Fronts past t.rest output
      → NoneFailed old.input new.input → NoneFailed old.output new.output → Cut past → Streams (playing Holds Cut) old new (Err stop.Memory)
  memory_stops past t output wrote front reads writes cut = (
    record { input = t.input; output = output; read = t.consumed; begins = begun Cut past t output front cut; wrote = wrote },
    reads,
    writes,
  )

  -- a write failed
  pub write_stops : (past : List Turn) (t : HaveTold old.input.octets new.input.octets past) (output : List ℕ) → Appends old.output.octets new.output.octets output → Fronts past t.rest output
      → NoneFailed old.input new.input → AnyFault old.output new.output → Holds past → Streams (playing Holds Cut) old new (Err stop.WriteFault)
  write_stops past t output wrote front reads writes holds = (
    record { input = t.input; output = output; read = t.consumed; begins = begun Holds past t output front holds; wrote = wrote },
    reads,
    writes,
  )

  -- a text could not be written behind what stands there
  pub text_stops : (A : Type 0) (past : List Turn) (t : HaveTold old.input.octets new.input.octets past) (mid : Stream) (before text : List ℕ) (why : Stop) → Appends old.output.octets mid.octets before → NoneFailed old.output mid
      → Writes {A = A} (Err why) text mid new.output → ((more : List ℕ) → IsFront (before ++ more) (before ++ text) → Fronts past t.rest (before ++ more)) → NoneFailed old.input new.input → Holds past → Streams (playing Holds Cut) old new (Err why)
  text_stops A past t mid before text stop.Memory wrote none same front reads holds =
      memory_stops past t (before ++ []) (subst (λ (s : Stream). Appends old.output.octets s.octets (before ++ [])) (sym same) (subst (Appends old.output.octets mid.octets) (sym (append-nil before)) wrote))
      (front [] (more_front before text 0)) reads
      (ap (λ (s : Stream). s.faults) same ∙ none) (weaken past holds)
  text_stops A past t mid before text stop.ReadFault wrote none never front reads holds = absurd never
  text_stops A past t mid before text stop.WriteFault wrote none w front reads holds =
      write_stops past t (before ++ take w.1.0 text) (Appends-trans old.output.octets mid.octets new.output.octets before (take w.1.0 text) wrote w.1.1) (front (take w.1.0 text) (more_front before text w.1.0)) reads
      (subst (λ (n : ℕ). Rose n new.output.faults) none w.0) holds

  -- nothing was read and nothing written, for want of memory
  pub nothing_stops : new.input ≡ old.input → new.output ≡ old.output → Cut [] → Streams (playing Holds Cut) old new (Err stop.Memory)
  nothing_stops input output cut =
      memory_stops [] told [] (subst (λ (s : Stream). Appends old.output.octets s.octets []) (sym output) (Appends-nil old.output.octets)) (inl (0, refl), tt) (ap (λ (s : Stream). s.faults) input)
      (ap (λ (s : Stream). s.faults) output) cut
    where
      told : HaveTold old.input.octets new.input.octets []
      told = subst (λ (s : Stream). HaveTold old.input.octets s.octets []) (sym input) (nothing_told old.input.octets)

  -- the first line could not be written
  pub head_stops : (A : Type 0) (why : Stop) → new.input ≡ old.input → Writes {A = A} (Err why) report_head old.output new.output → Holds [] → Streams (playing Holds Cut) old new (Err why)
  head_stops A why input w holds =
      text_stops A [] told old.output [] report_head why (Appends-nil old.output.octets) refl w
      (λ more front. (inl (subst (IsFront more) (sym (turns_text-none report_head)) front), tt)) (ap (λ (s : Stream). s.faults) input) holds
    where
      told : HaveTold old.input.octets new.input.octets []
      told = subst (λ (s : Stream). HaveTold old.input.octets s.octets []) (sym input) (nothing_told old.input.octets)

  -- the text of the newest turn could not be written
  pub turn_stops : (A : Type 0) (reading : Reading) (past newest : List Turn) (turn : Turn) (mid : Stream) (why : Stop) → HasRead reading old.input.octets new.input.octets (titles newest ++ []) → reading.place.before ≤ INPUT_OCTETS
      → newest ≡ turn ∷ past → Appends old.output.octets mid.octets (report_head ++ turns_text past) → NoneFailed old.output mid → Writes {A = A} (Err why) (newest_text newest) mid new.output
      → NoneFailed old.input new.input → Holds newest → Streams (playing Holds Cut) old new (Err why)
  turn_stops A reading past newest turn mid why h within more wrote none w reads holds =
      text_stops A newest (lines_told reading old.input.octets new.input.octets newest [] h within) mid (report_head ++ turns_text past) (newest_text newest) why wrote none w
      (λ rest front. (inl (subst (IsFront ((report_head ++ turns_text past) ++ rest)) (head-newest past newest turn more) front), before_newest past newest turn rest more)) reads holds

  -- the last line was written, or could not be
  pub last_ends : (past : List Turn) (fault : Option InputFault) (turns : ℕ) (mid : Stream) (answer : Result (Option InputFault) Stop) → AllTold old.input.octets new.input.octets past fault → turns ≡ length past
      → Appends old.output.octets mid.octets (report_head ++ turns_text past) → NoneFailed old.output mid → Writes answer (end_line turns) mid new.output → IfOk answer (λ found. found ≡ fault)
      → NoneFailed old.input new.input → Holds past → Streams (playing Holds Cut) old new answer
  last_ends past fault turns mid (Ok found) t count wrote none w same reads holds = subst (λ (f : Option InputFault). Finishes (streaming (playing Holds Cut)) old new f) (sym same) (record {
    input = t.input;
    output = (report_head ++ turns_text past) ++ end_line turns;
    reads = (t.consumed, reads);
    makes = (
      record { whole = t.whole; bounded = t.bounded },
      record { trace = past; events = t.events; written = append_assoc report_head (turns_text past) (end_line turns) ∙ ap (λ (n : ℕ). report_head ++ (turns_text past ++ end_line n)) count; holds = holds },
    );
    writes = (Appends-trans old.output.octets mid.octets new.output.octets (report_head ++ turns_text past) (end_line turns) wrote w.0, w.1 ∙ none);
  })
  last_ends past fault turns mid (Err why) t count wrote none w same reads holds =
      text_stops (Option InputFault) past told mid (report_head ++ turns_text past) (end_line turns) why wrote none w (λ more front. (inr (refl, subst (IsFront ((report_head ++ turns_text past) ++ more)) whole front), all_but_newest past more)) reads holds
    where
      whole : (report_head ++ turns_text past) ++ end_line turns ≡ report past
      whole = append_assoc report_head (turns_text past) (end_line turns) ∙ ap (λ (n : ℕ). report_head ++ (turns_text past ++ end_line n)) count

      told : HaveTold old.input.octets new.input.octets past
      told = record {
        input = t.input;
        consumed = t.consumed;
        bounded = t.bounded;
        rest = record { events = []; fault = fault };
        events = t.events ∙ (λ i. record { events = sym (append-nil (titles past)) i; fault = fault });
      }

  -- memory ran out before the turn of an event
  pub unplayed_stops : (reading : Reading) (past : List Turn) (more : List (Moment × PlainEvent)) → HasRead reading old.input.octets new.input.octets (titles past ++ more) → reading.place.before ≤ INPUT_OCTETS
      → Appends old.output.octets new.output.octets (report_head ++ turns_text past) → NoneFailed old.output new.output → NoneFailed old.input new.input → Cut past → Streams (playing Holds Cut) old new (Err stop.Memory)
  unplayed_stops reading past more h within wrote writes reads cut =
      memory_stops past (lines_told reading old.input.octets new.input.octets past more h within) (report_head ++ turns_text past) wrote (inl (all_front (report_head ++ turns_text past)), all_written past) reads writes cut

  -- memory ran out while a line was read
  pub line_stops : (reading : Reading) (mid : Stream) (past : List Turn) → IsPlaying reading old.input.octets mid.octets old.output.octets new.output.octets past → NoneFailed old.input mid → NoneFailed old.output new.output
      → StopsAt why_none.Memory reading mid.octets new.input.octets mid.faults new.input.faults → Cut past → Streams (playing Holds Cut) old new (Err stop.Memory)
  line_stops reading mid past p none writes s cut =
      memory_stops past (rest_told reading old.input.octets mid.octets new.input.octets past s.0.0 p.has_read s.1 s.0.1) (report_head ++ turns_text past) p.wrote
      (inl (all_front (report_head ++ turns_text past)), all_written past) (s.2 ∙ none) writes cut

  -- a read failed
  pub source_stops : (reading : Reading) (mid : Stream) (past : List Turn) → IsPlaying reading old.input.octets mid.octets old.output.octets new.output.octets past → NoneFailed old.input mid → NoneFailed old.output new.output
      → StopsAt why_none.Source reading mid.octets new.input.octets mid.faults new.input.faults → Holds past → Streams (playing Holds Cut) old new (Err stop.ReadFault)
  unfolding rest_told
  source_stops reading mid past p none writes s holds = (
    record {
      input = told.input;
      output = output;
      read = told.consumed;
      begins = (told.bounded, (begun Holds past told output (inl (all_front output), all_written past) holds).1, whole);
      wrote = p.wrote;
    },
    subst (λ (n : ℕ). Rose n new.input.faults) none s.2,
    writes,
  )
    where
      output : List ℕ
      output = report_head ++ turns_text past

      told : HaveTold old.input.octets new.input.octets past
      told = rest_told reading old.input.octets mid.octets new.input.octets past s.0.0 p.has_read s.1 s.0.1

      lines : (ls : List (List ℕ)) × (p.has_read.taken ≡ with_line_feeds ls)
      lines = elim p.has_read.whole [ inl fed ↦ (fed.1, fed.2) | inr ended ↦ absurd (let k : true ≡ false = sym ended.0 ∙ s.1 in cc) ]

      works : IsPlayedSoFar Holds p.has_read.taken output
      works = record {
        trace = past;
        events = (nothing_follows reading old.input.octets mid.octets past p.has_read).0;
        faultless = (nothing_follows reading old.input.octets mid.octets past p.has_read).1;
        written = refl;
        holds = holds;
      }

      whole : WorksWhole (IsPlayedSoFar Holds) told.input output
      whole = record {
        lines = lines.0;
        tail = reading.kept ++ s.0.0;
        parts = ap (λ (t : List ℕ). t ++ (reading.kept ++ s.0.0)) lines.1;
        feedless = s.0.2;
        works = subst (λ (t : List ℕ). IsPlayedSoFar Holds t output) lines.1 works;
      }

-- what holds of the trace may be said otherwise
pub streams_as : (H C H' C' : List Turn → Type 0) → ((trace : List Turn) → H trace → H' trace) → ((trace : List Turn) → C trace → C' trace) → (old new : Outside) (worked : Result (Option InputFault) Stop)
    → Streams (playing H C) old new worked → Streams (playing H' C') old new worked
streams_as H C H' C' holds cuts old new worked streams = go worked streams
  where
    so_far : (f : (trace : List Turn) → H trace → H' trace) (lines output : List ℕ) → IsPlayedSoFar H lines output → IsPlayedSoFar H' lines output
    so_far f lines output p = record { trace = p.trace; events = p.events; faultless = p.faultless; written = p.written; holds = f p.trace p.holds }

    go : (worked : Result (Option InputFault) Stop) → Streams (playing H C) old new worked → Streams (playing H' C') old new worked
    go (Ok fault) f = record {
      input = f.input;
      output = f.output;
      reads = f.reads;
      makes = (f.makes.0, record { trace = f.makes.1.trace; events = f.makes.1.events; written = f.makes.1.written; holds = holds f.makes.1.trace f.makes.1.holds });
      writes = f.writes;
    }
    go (Err stop.Memory) b = (
      record {
        input = b.0.input;
        output = b.0.output;
        read = b.0.read;
        begins = (b.0.begins.0, record { trace = b.0.begins.1.trace; rest = b.0.begins.1.rest; events = b.0.begins.1.events; front = b.0.begins.1.front; written = b.0.begins.1.written; holds = cuts b.0.begins.1.trace b.0.begins.1.holds });
        wrote = b.0.wrote;
      },
      b.1,
      b.2,
    )
    go (Err stop.WriteFault) b = (
      record {
        input = b.0.input;
        output = b.0.output;
        read = b.0.read;
        begins = (b.0.begins.0, record { trace = b.0.begins.1.trace; rest = b.0.begins.1.rest; events = b.0.begins.1.events; front = b.0.begins.1.front; written = b.0.begins.1.written; holds = holds b.0.begins.1.trace b.0.begins.1.holds });
        wrote = b.0.wrote;
      },
      b.1,
      b.2,
    )
    go (Err stop.ReadFault) b = (
      record {
        input = b.0.input;
        output = b.0.output;
        read = b.0.read;
        begins = (
          b.0.begins.0,
          record { trace = b.0.begins.1.trace; rest = b.0.begins.1.rest; events = b.0.begins.1.events; front = b.0.begins.1.front; written = b.0.begins.1.written; holds = holds b.0.begins.1.trace b.0.begins.1.holds },
          record {
            lines = b.0.begins.2.lines;
            tail = b.0.begins.2.tail;
            parts = b.0.begins.2.parts;
            feedless = b.0.begins.2.feedless;
            works = so_far holds (with_line_feeds b.0.begins.2.lines) b.0.output b.0.begins.2.works;
          },
        );
        wrote = b.0.wrote;
      },
      b.1,
      b.2,
    )

-- an output that was written whole is a front of itself, also where its fault could not be named
pub played_begins : (Holds Cut : List Turn → Type 0) → ((trace : List Turn) → Holds trace → Cut trace) → (input output : List ℕ) (fault : InputFault) → IsPlayed Holds input (Some fault) output
    → IsBegun Cut input output
played_begins Holds Cut weaken input output fault p = record {
  trace = p.trace;
  rest = record { events = []; fault = Some fault };
  events = p.events ∙ (λ i. record { events = sym (append-nil (titles p.trace)) i; fault = Some fault });
  front = inr (refl, subst (λ (o : List ℕ). IsFront o (report p.trace)) (sym p.written) (all_front (report p.trace)));
  written = subst (AllButNewest p.trace) (sym (p.written ∙ sym (append_assoc report_head (turns_text p.trace) (end_line (length p.trace))))) (all_but_newest p.trace (end_line (length p.trace)));
  holds = weaken p.trace p.holds;
}
