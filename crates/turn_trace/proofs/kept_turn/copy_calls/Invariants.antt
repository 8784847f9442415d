use Rattle.std.proofs.Common.{◌≡◌, ◌+◌, ◌≤◌, ◌++◌, length, take, vec_capacity, vec_len}
use Rattle.turn_trace.proofs.kept_turn.copy_calls.Given as goal

abbrev pub invariant-loop-at : goal.invariant-loop-at
invariant-loop-at l = record {
  copied : l.kept.items ≡ l.fn.kept.items ++ take l.at l.calls;
  room : vec_len l.kept + length l.calls ≤ vec_capacity l.kept + l.at;
}
