use Rattle.std.proofs.Common.{◌≢◌, ℕ, ◌<◌}
use Rattle.std.specs.Prelude.{slice_index_or}
use Rattle.ha_base.proofs.memory_streams.names_call.Given as goal

abbrev pub invariant-loop-named : goal.invariant-loop-named
invariant-loop-named l = (k : ℕ) (d : ℕ) → k < l.named-index → slice_index_or l.calls k d ≢ l.call
