use Rattle.std.proofs.Common.{◌≤◌, All}
use Rattle.library_tests.proofs.redirecting.a_sixth_redirect_waits.Given as goal

abbrev pub invariant-loop-now : goal.invariant-loop-now
invariant-loop-now g l = All (λ moment. moment ≤ l.last) l.history
