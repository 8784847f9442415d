-- How a text is written that is made first.
use Rattle.std.specs.Prelude.{ℕ, ◌≡◌, List, Result, Ok, Err}
use Rattle.call_ends.specs.Outside.{AnyFault, Stream, WritesAll, WritesFront}
use Rattle.call_ends.specs.declared.streaming.Stop.{Stop}
use Rattle.call_ends.specs.declared.streaming.Stop.TheVariants as stop

-- A text was written; or nothing was, since memory lacked for it; or a front of it, before a fault.
abbrev pub Writes : {A : Type 0} → Result A Stop → List ℕ → (old new : Stream) → Type 0
Writes (Ok value) text old new = WritesAll text old new
Writes (Err stop.Memory) text old new = new ≡ old
Writes (Err stop.ReadFault) text old new = ⊥
Writes (Err stop.WriteFault) text old new = AnyFault old new × WritesFront text old new
