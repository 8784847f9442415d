-- The Message IDs so far.
use Rattle.std.proofs.Common.{◌≡◌, ◌+◌, ◌≤◌, filter, length, nat_lt}
use Rattle.ike_window.specs.Kept.{message_ids_of}
use Rattle.ike_window.proofs.ring.Ring+ASKED.ids_from.Given as goal

abbrev pub invariant-loop-step : goal.invariant-loop-step
invariant-loop-step l = record {
  ids : l.ids ≡ filter (λ id. nat_lt id (l.first + l.step)) (message_ids_of l.self.kept);
  few : length l.ids ≤ l.step;
}
