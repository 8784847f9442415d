use Rattle.std.proofs.Common.{◌≡◌, ◌≤◌, count_by, take, length}
use Rattle.redirects.specs.Follows.{is_recent}
use Rattle.redirects.proofs.follows.Follows.recent.Given as goal

abbrev pub invariant-loop-moment : goal.invariant-loop-moment
invariant-loop-moment l =
    (l.recent ≡ count_by (is_recent l.now) (take l.moment-index l.moment-items)) × (l.recent ≤ l.moment-index) × (length l.moment-items ≤ 5)
