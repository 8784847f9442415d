use Rattle.std.proofs.Common.{subst}
use Rattle.resume_settling.specs.Replies.{Replies}
use Rattle.resume_settling.proofs.receiving.decline.Goals as goal

pub returns-clause-declines : goal.returns-clause-declines
returns-clause-declines c = λ half_open here. (
  subst (λ p. Replies half_open p c.end_with.result) c.in_ok-ready.ensures (c.end_with.ensures.replies half_open here),
  c.end_with.ensures.removed,
)
