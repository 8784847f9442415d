-- How showing ends: each way out of its loop is a row of the table.
use Rattle.std.proofs.Common.{◌≡◌, ℕ, ◌+◌, ◌≤◌, ◌⊎◌, true, false, List, [], ◌∷◌, ◌++◌, length, take, Option, Some, None, Result, Ok, Err, IfOk, refl, sym, ap, ◌∙◌, subst, append-nil, inl, inr}
use Rattle.std.proofs.KnownBytes.{Appends-nil, Appends-trans}
use Rattle.std.proofs.Math.Seq.{take-append-add, take-length}
use Rattle.std.specs.Io.KnownBytes.{Appends}
use Rattle.std.specs.List.{flat_map}
use Rattle.call_ends.specs.Endings.{Finishes}
use Rattle.call_ends.specs.Outside.{AnyFault, IsFront, NoneFailed, Outside, Stream, octets_told}
use Rattle.call_ends.specs.Streaming.{Streams, WorksWhole, streaming}
use Rattle.call_ends.specs.Writes.{Writes}
use Rattle.call_ends.specs.declared.streaming.Stop.{Stop}
use Rattle.call_ends.specs.declared.streaming.Stop.TheVariants as stop
use Rattle.ha_base.specs.Faults.{Rose}
use Rattle.ha_base.specs.declared.limits.TheConstants.{INPUT_OCTETS}
use Rattle.input_lines.specs.Lines.{with_line_feeds}
use Rattle.input_lines.specs.declared.fault.InputFault.{InputFault}
use Rattle.line_fields.specs.Octets.{decoded}
use Rattle.message_text.specs.Shown.{shown}
use Rattle.word_text.specs.Ends.{end_line}
use Rattle.show_messages.proofs.ReadLaws.{AllTold, HaveTold, IsShowing, flat_map-more, lines_told, nothing_follows, nothing_told, rest_told}
use Rattle.show_messages.specs.Messages.{Messages, messages_of}
use Rattle.show_messages.specs.Pieces.{HasRead, Reading, StopsAt}
use Rattle.show_messages.specs.Showing.{IsShown, IsShownPart, IsShownSoFar, showing}
use Rattle.show_messages.specs.Shows.{shown_all}
use Rattle.show_messages.specs.declared.lines.TakeFault.TheVariants as why_none

all_front : (octets : List ℕ) → IsFront octets octets
all_front octets = (length octets, sym (take-length octets))

more_front : (front text : List ℕ) (n : ℕ) → IsFront (front ++ take n text) (front ++ text)
more_front front text n = (length front + n, sym (take-append-add front text n))

module _ (old new : Outside) where
  -- some octets are a front of the messages' text, or of the whole text, where no message is left
  abbrev Fronts : (messages : List (List ℕ)) → Messages → List ℕ → Type 0
  Fronts messages rest output = IsFront output (flat_map shown messages) ⊎ ((rest.messages ≡ []) × IsFront output (shown_all messages))

  part : (messages : List (List ℕ)) (t : HaveTold old.input.octets new.input.octets messages) (output : List ℕ) → Fronts messages t.rest output → IsShownPart (t.input ++ octets_told new.input.octets) output
  part messages t output front = record { messages = messages; rest = t.rest; holds = t.holds; front = front }

  -- memory ran out
  memory_stops : (messages : List (List ℕ)) (t : HaveTold old.input.octets new.input.octets messages) (output : List ℕ) → Appends old.output.octets new.output.octets output → Fronts messages t.rest output
      → NoneFailed old.input new.input → NoneFailed old.output new.output → Streams showing old new (Err stop.Memory)
  memory_stops messages t output wrote front reads writes = (
    record { input = t.input; output = output; read = t.consumed; begins = (t.bounded, part messages t output front); wrote = wrote },
    reads,
    writes,
  )

  -- a write failed
  write_stops : (messages : List (List ℕ)) (t : HaveTold old.input.octets new.input.octets messages) (output : List ℕ) → Appends old.output.octets new.output.octets output → Fronts messages t.rest output
      → NoneFailed old.input new.input → AnyFault old.output new.output → Streams showing old new (Err stop.WriteFault)
  write_stops messages t output wrote front reads writes = (
    record { input = t.input; output = output; read = t.consumed; begins = (t.bounded, part messages t output front); wrote = wrote },
    reads,
    writes,
  )

  -- a text could not be written behind what stands there
  text_stops : (A : Type 0) (messages : List (List ℕ)) (t : HaveTold old.input.octets new.input.octets messages) (mid : Stream) (before text : List ℕ) (why : Stop) → Appends old.output.octets mid.octets before → NoneFailed old.output mid
      → Writes {A = A} (Err why) text mid new.output → ((output : List ℕ) → IsFront output (before ++ text) → Fronts messages t.rest output) → NoneFailed old.input new.input → Streams showing old new (Err why)
  text_stops A messages t mid before text stop.Memory wrote none same front reads =
      memory_stops messages t (before ++ []) (subst (λ (s : Stream). Appends old.output.octets s.octets (before ++ [])) (sym same) (subst (Appends old.output.octets mid.octets) (sym (append-nil before)) wrote))
      (front (before ++ []) (more_front before text 0)) reads (ap (λ (s : Stream). s.faults) same ∙ none)
  text_stops A messages t mid before text stop.ReadFault wrote none never front reads = absurd never
  text_stops A messages t mid before text stop.WriteFault wrote none w front reads =
      write_stops messages t (before ++ take w.1.0 text) (Appends-trans old.output.octets mid.octets new.output.octets before (take w.1.0 text) wrote w.1.1) (front (before ++ take w.1.0 text) (more_front before text w.1.0)) reads
      (subst (λ (n : ℕ). Rose n new.output.faults) none w.0)

  -- nothing was read and nothing written, for want of memory
  pub nothing_stops : new.input ≡ old.input → new.output ≡ old.output → Streams showing old new (Err stop.Memory)
  nothing_stops input output =
      memory_stops [] told [] (subst (λ (s : Stream). Appends old.output.octets s.octets []) (sym output) (Appends-nil old.output.octets)) (inl (0, refl)) (ap (λ (s : Stream). s.faults) input) (ap (λ (s : Stream). s.faults) output)
    where
      told : HaveTold old.input.octets new.input.octets []
      told = subst (λ (s : Stream). HaveTold old.input.octets s.octets []) (sym input) (nothing_told old.input.octets)

  -- the text of a message could not be written
  pub message_stops : (A : Type 0) (reading : Reading) (messages : List (List ℕ)) (mid : Stream) (why : Stop) → HasRead reading old.input.octets new.input.octets (messages ++ decoded reading.text ∷ []) → reading.place.before ≤ INPUT_OCTETS
      → Appends old.output.octets mid.octets (flat_map shown messages) → NoneFailed old.output mid → Writes {A = A} (Err why) (shown (decoded reading.text)) mid new.output → NoneFailed old.input new.input
      → Streams showing old new (Err why)
  message_stops A reading messages mid why h within wrote none w reads =
      text_stops A (messages ++ decoded reading.text ∷ []) (lines_told reading old.input.octets new.input.octets (messages ++ decoded reading.text ∷ []) h within) mid (flat_map shown messages) (shown (decoded reading.text)) why wrote none w
      (λ output front. inl (subst (IsFront output) (flat_map-more messages (decoded reading.text)) front)) reads

  -- the last line was written, or could not be
  pub last_ends : (messages : List (List ℕ)) (fault : Option InputFault) (count : ℕ) (mid : Stream) (answer : Result (Option InputFault) Stop) → AllTold old.input.octets new.input.octets messages fault → count ≡ length messages
      → Appends old.output.octets mid.octets (flat_map shown messages) → NoneFailed old.output mid → Writes answer (end_line count) mid new.output → IfOk answer (λ found. found ≡ fault)
      → NoneFailed old.input new.input → Streams showing old new answer
  last_ends messages fault count mid (Ok found) t counted wrote none w same reads = subst (λ (f : Option InputFault). Finishes (streaming showing) old new f) (sym same) (record {
    input = t.input;
    output = flat_map shown messages ++ end_line count;
    reads = (t.consumed, reads);
    makes = (
      record { whole = t.whole; bounded = t.bounded },
      record { first_fault = ap (λ (m : Messages). m.fault) t.holds; written = ap (λ (n : ℕ). flat_map shown messages ++ end_line n) counted ∙ ap (λ (m : Messages). shown_all m.messages) (sym t.holds) },
    );
    writes = (Appends-trans old.output.octets mid.octets new.output.octets (flat_map shown messages) (end_line count) wrote w.0, w.1 ∙ none);
  })
  last_ends messages fault count mid (Err why) t counted wrote none w same reads =
      text_stops (Option InputFault) messages told mid (flat_map shown messages) (end_line count) why wrote none w
      (λ output front. inr (refl, subst (λ (n : ℕ). IsFront output (flat_map shown messages ++ end_line n)) counted front)) reads
    where
      told : HaveTold old.input.octets new.input.octets messages
      told = record {
        input = t.input;
        consumed = t.consumed;
        bounded = t.bounded;
        rest = record { messages = []; fault = fault };
        holds = t.holds ∙ (λ i. record { messages = sym (append-nil messages) i; fault = fault });
      }

  -- a read failed
  pub source_stops : (reading : Reading) (mid : Stream) (p : IsShowing reading old.input.octets mid.octets old.output.octets new.output.octets) → NoneFailed old.input mid → NoneFailed old.output new.output
      → StopsAt why_none.Source reading mid.octets new.input.octets mid.faults new.input.faults → Streams showing old new (Err stop.ReadFault)
  unfolding rest_told
  source_stops reading mid p none writes s = (
    record { input = told.input; output = output; read = told.consumed; begins = (told.bounded, part p.messages told output (inl (all_front output)), whole); wrote = p.wrote },
    subst (λ (n : ℕ). Rose n new.input.faults) none s.2,
    writes,
  )
    where
      output : List ℕ
      output = flat_map shown p.messages

      told : HaveTold old.input.octets new.input.octets p.messages
      told = rest_told reading old.input.octets mid.octets new.input.octets p.messages s.0.0 p.has_read s.1 s.0.1

      lines : (ls : List (List ℕ)) × (p.has_read.taken ≡ with_line_feeds ls)
      lines = elim p.has_read.whole [ inl fed ↦ (fed.1, fed.2) | inr ended ↦ absurd (let k : true ≡ false = sym ended.0 ∙ s.1 in cc) ]

      follows : messages_of p.has_read.taken ≡ record { messages = p.messages; fault = None }
      follows = nothing_follows reading old.input.octets mid.octets p.messages p.has_read

      works : IsShownSoFar p.has_read.taken output
      works = record { faultless = ap (λ (m : Messages). m.fault) follows; written = ap (λ (m : Messages). flat_map shown m.messages) (sym follows) }

      whole : WorksWhole IsShownSoFar told.input output
      whole = record {
        lines = lines.0;
        tail = reading.kept ++ s.0.0;
        parts = ap (λ (t : List ℕ). t ++ (reading.kept ++ s.0.0)) lines.1;
        feedless = s.0.2;
        works = subst (λ (t : List ℕ). IsShownSoFar t output) lines.1 works;
      }

-- an output that was written whole is a front of itself, also where its fault could not be named
pub shown_begins : (input output : List ℕ) (fault : InputFault) → IsShown input (Some fault) output → IsShownPart input output
shown_begins input output fault s = record {
  messages = (messages_of input).messages;
  rest = record { messages = []; fault = (messages_of input).fault };
  holds = λ i. record { messages = sym (append-nil (messages_of input).messages) i; fault = (messages_of input).fault };
  front = inr (refl, subst (λ (o : List ℕ). IsFront o (shown_all (messages_of input).messages)) (sym s.written) (all_front (shown_all (messages_of input).messages)));
}
