use Rattle.std.proofs.Common.{◌≤◌, inl, inr, All, sym, subst}
use Rattle.redirects.proofs.Loops.{none_later}
use Rattle.redirects.proofs.follows.follow.Goals as goal

pub returns-in-Session-clause-none_later : goal.returns-in-Session-clause-none_later
returns-in-Session-clause-none_later c =
    let now = c.args.now.0 in
    elim c.follow_unless_loop.ensures [
      | inl looped ↦ subst (λ follows. All (λ moment. moment ≤ now) follows) (sym looped.2) c.requires
      | inr followed ↦ subst (λ follows. All (λ moment. moment ≤ now) follows) (sym followed.2) (none_later c.args.history.now now c.requires)
    ]
