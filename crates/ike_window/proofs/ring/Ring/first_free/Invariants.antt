-- The Message IDs so far have messages.
use Rattle.std.proofs.Common.{◌≡◌, ◌<◌, ◌≤◌, ℕ, true}
use Rattle.ike_window.specs.Kept.{message_ids_of, has_message_id}
use Rattle.ike_window.proofs.ring.Ring.first_free.Given as goal

abbrev pub invariant-loop-id : goal.invariant-loop-id
invariant-loop-id g l = (m : ℕ) → l.from ≤ m → m < l.id → has_message_id (message_ids_of l.self.kept) m ≡ true
