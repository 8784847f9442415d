-- What is told of the outside of a call: its input, its output, and its error output.
use Rattle.std.specs.Prelude.{ℕ, ◌≡◌, ◌⊎◌, List, [], Option, Some, None, take}
use Rattle.std.specs.Io.KnownBytes.{Appends, Consumes}
use Rattle.ha_base.specs.Faults.{AppendsFront, Rose}
use Rattle.ha_base.specs.declared.streams.Source as source
use Rattle.ha_base.specs.declared.streams.Sink as sink

-- a stream: the octets that are left in it, or that were written to it, where it tells them, and
-- how many of its calls failed
pub record Stream : Type 0 where
  pub octets : Option (List ℕ)
  pub faults : ℕ

pub record Outside : Type 0 where
  pub input : Stream
  pub output : Stream
  pub errors : Stream

abbrev pub source_told : {S : Type 0} → source.Ghosts S → S → Stream
source_told s x = record { octets = s.left x; faults = s.faults x }

abbrev pub sink_told : {O : Type 0} → sink.Ghosts O → O → Stream
sink_told o x = record { octets = o.written x; faults = o.faults x }

abbrev pub outside : {S O D : Type 0} → source.Ghosts S → sink.Ghosts O → sink.Ghosts D → S → O → D
    → Outside
outside s o d input output errors =
    record { input = source_told s input; output = sink_told o output; errors = sink_told d errors }

-- what is told of an input and an output, beside an error output
abbrev pub streams_told : {S O : Type 0} → source.Ghosts S → sink.Ghosts O → S → O → Stream
    → Outside
streams_told s o input output errors =
    record { input = source_told s input; output = sink_told o output; errors = errors }

-- the octets that a stream tells
abbrev pub octets_told : Option (List ℕ) → List ℕ
octets_told None = []
octets_told (Some octets) = octets

-- some octets are a front of others
abbrev pub IsFront : List ℕ → List ℕ → Type 0
IsFront front octets = (n : ℕ) × (front ≡ take n octets)

-- no call failed
abbrev pub NoneFailed : Stream → Stream → Type 0
NoneFailed old new = new.faults ≡ old.faults

-- a call failed
abbrev pub AnyFault : Stream → Stream → Type 0
AnyFault old new = Rose old.faults new.faults

-- octets were read, and no read failed
abbrev pub ReadsAll : List ℕ → Stream → Stream → Type 0
ReadsAll octets old new = Consumes old.octets new.octets octets × NoneFailed old new

-- octets were written, and no write failed
abbrev pub WritesAll : List ℕ → Stream → Stream → Type 0
WritesAll octets old new = Appends old.octets new.octets octets × NoneFailed old new

-- some of the octets were written, from the front
abbrev pub WritesFront : List ℕ → Stream → Stream → Type 0
WritesFront octets old new = AppendsFront old.octets new.octets octets

-- the octets were written, or a front of them, and then a write failed
abbrev pub SaysLine : List ℕ → Stream → Stream → Type 0
SaysLine octets old new = WritesAll octets old new ⊎ (AnyFault old new × WritesFront octets old new)
