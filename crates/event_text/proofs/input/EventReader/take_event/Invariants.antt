use Rattle.std.proofs.Common.{◌≡◌, ◌≤◌, length}
use Rattle.event_text.specs.Input.{left_contents}
use Rattle.event_text.proofs.input.EventReader.take_event.Given as goal

abbrev pub invariant-lines : goal.invariant-lines
invariant-lines l = (left_contents l.fn.self ≡ left_contents l.self) × (length l.self.lines ≤ length l.fn.self.lines)

abbrev pub decreases-lines : goal.decreases-lines
decreases-lines l = length l.self.lines
