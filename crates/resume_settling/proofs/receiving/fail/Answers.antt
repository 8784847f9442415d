use Rattle.std.proofs.Common.{refl, subst}
use Rattle.resume_settling.specs.Replies.{Replies}
use Rattle.resume_settling.proofs.receiving.fail.Goals as goal

pub returns-clause-fails : goal.returns-clause-fails
returns-clause-fails c = λ half_open here. (
  refl,
  subst (λ p. Replies half_open p c.end_with.result) c.in_ok-ready.ensures (c.end_with.ensures.replies half_open here),
  c.end_with.ensures.removed,
)
