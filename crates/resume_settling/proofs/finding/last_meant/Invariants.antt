-- None that was passed is meant.
use Rattle.std.proofs.Common.{◌≡◌, ◌≤◌, false, drop, length}
use Rattle.std.specs.List.{list_any}
use Rattle.resume_settling.specs.Finding.{is_meant}
use Rattle.resume_settling.proofs.finding.last_meant.Given as goal

abbrev pub invariant-loop-end : goal.invariant-loop-end
invariant-loop-end l = record {
  within : l.end ≤ length l.half_opens;
  none : list_any (is_meant l.now.0 l.header) (drop l.end l.half_opens) ≡ false;
}

abbrev pub decreases-loop-end : goal.decreases-loop-end
decreases-loop-end l = l.end
