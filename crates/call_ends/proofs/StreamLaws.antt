-- How a call ends for a command that goes by lines, by how the work on its input ended and what was said of it.
use Rattle.std.proofs.Common.{ℕ, List, ◌++◌, Option, Some, None, Result, Ok, Err, inl, inr}
use Rattle.input_lines.specs.declared.fault.InputFault.{InputFault}
use Rattle.call_ends.specs.Endings.{BreaksOff, Ends, Finishes}
use Rattle.call_ends.specs.Outside.{Outside, octets_told}
use Rattle.call_ends.specs.Streaming.{Says, Streaming, Streams, streaming}
use Rattle.call_ends.specs.declared.status.Status.{Status}
use Rattle.call_ends.specs.declared.status.Status.TheVariants as status
use Rattle.call_ends.specs.declared.streaming.Stop.{Stop}
use Rattle.call_ends.specs.declared.streaming.Stop.TheVariants as stop

module _ (s : Streaming) (all : (input output : List ℕ) (fault : InputFault) → s.Makes input (Some fault) output → s.Begins status.Memory input output) (old new : Outside) where
  -- an output that was written whole is a front of itself
  begun : (fault : InputFault) → Finishes (streaming s) old new (Some fault) → BreaksOff (streaming s) status.Memory old new
  begun fault f = record {
    input = f.input;
    output = f.output;
    read = f.reads.0;
    begins = (f.makes.0.bounded, all (f.input ++ octets_told new.input.octets) f.output fault f.makes.1);
    wrote = f.writes.0;
  }

  faulty_ends : (fault : InputFault) → Finishes (streaming s) old new (Some fault) → (ended : Status) → Says (Ok (Some fault)) old.errors new.errors ended → Ends (streaming s) old new ended
  faulty_ends fault f status.Done says = absurd says
  faulty_ends fault f status.FaultyLine says = (fault, f, says)
  faulty_ends fault f status.Words says = absurd says
  faulty_ends fault f status.Memory says = (begun fault f, f.reads.1, f.writes.1, says)
  faulty_ends fault f status.ReadFault says = absurd says
  faulty_ends fault f status.WriteFault says = inr (fault, f, says.0, says.1)

  whole_ends : Finishes (streaming s) old new None → (ended : Status) → Says (Ok None) old.errors new.errors ended → Ends (streaming s) old new ended
  whole_ends f status.Done says = (f, says)
  whole_ends f status.FaultyLine says = absurd says
  whole_ends f status.Words says = absurd says
  whole_ends f status.Memory says = absurd says
  whole_ends f status.ReadFault says = absurd says
  whole_ends f status.WriteFault says = absurd says

  broken_ends : (why : Stop) → Streams s old new (Err why) → (ended : Status) → Says (Err why) old.errors new.errors ended → Ends (streaming s) old new ended
  broken_ends stop.Memory b status.Memory says = (b.0, b.1, b.2, says)
  broken_ends stop.ReadFault b status.ReadFault says = (b.0, b.1, b.2, says)
  broken_ends stop.WriteFault b status.WriteFault says = inl (b.0, b.1, b.2, says)
  broken_ends stop.Memory b status.Done says = absurd says
  broken_ends stop.Memory b status.FaultyLine says = absurd says
  broken_ends stop.Memory b status.Words says = absurd says
  broken_ends stop.Memory b status.ReadFault says = absurd says
  broken_ends stop.Memory b status.WriteFault says = absurd says
  broken_ends stop.ReadFault b status.Done says = absurd says
  broken_ends stop.ReadFault b status.FaultyLine says = absurd says
  broken_ends stop.ReadFault b status.Words says = absurd says
  broken_ends stop.ReadFault b status.Memory says = absurd says
  broken_ends stop.ReadFault b status.WriteFault says = absurd says
  broken_ends stop.WriteFault b status.Done says = absurd says
  broken_ends stop.WriteFault b status.FaultyLine says = absurd says
  broken_ends stop.WriteFault b status.Words says = absurd says
  broken_ends stop.WriteFault b status.Memory says = absurd says
  broken_ends stop.WriteFault b status.ReadFault says = absurd says

  pub stream_ends : (worked : Result (Option InputFault) Stop) → Streams s old new worked → (ended : Status) → Says worked old.errors new.errors ended → Ends (streaming s) old new ended
  stream_ends (Ok None) f ended says = whole_ends f ended says
  stream_ends (Ok (Some fault)) f ended says = faulty_ends fault f ended says
  stream_ends (Err why) b ended says = broken_ends why b ended says
