-- What was written, by what the call answered.
use Rattle.std.proofs.Common.{◌≡◌, ℕ, List, Result, Ok, Err, OnOk, OnErr, inl, inr}
use Rattle.std.specs.Io.KnownBytes.{Appends}
use Rattle.ha_base.specs.Faults.{AppendsFront, Rose}
use Rattle.call_ends.specs.Outside.{SaysLine, Stream}

-- all was written, or a front of it before a write failed
pub says_either : {T E : Type 0} (answer : Result T E) (old new : Stream) (text : List ℕ)
    → OnOk answer (Appends old.octets new.octets text) → OnOk answer (new.faults ≡ old.faults)
    → OnErr answer (AppendsFront old.octets new.octets text) → OnErr answer (Rose old.faults new.faults) → SaysLine text old new
says_either (Ok value) old new text all none front failed = inl (all, none)
says_either (Err why) old new text all none front failed = inr (failed, front)
