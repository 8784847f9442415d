-- The calls for a number, and those for an IV behind them.
use Rattle.std.proofs.Common.{◌++◌, ◌∙◌, rules, subst}
use Rattle.horizons.specs.Ready.{Readies}
use Rattle.keeper_book.proofs.Asking.{asks_then}
use Rattle.cluster_member.proofs.Readying.{covers-both, covers-first}
use Rattle.cluster_member.proofs.ready.ready_both.Goals as goal

pub returns-in_err-admit-clause-calls : goal.returns-in_err-admit-clause-calls
returns-in_err-admit-clause-calls g c =
    let it = c.admit.ensures.calls in
    record {
      calls = it.calls;
      follows = covers-first c.args.horizon.now c.admit.new.self c.args.iv.now c.args.iv.now c.args.at it.calls c.admit.result c.from_residual.result it.follows _ c.in_err-admit.was (search rules);
      asked = it.asked;
      held = it.held;
    }

pub returns-clause-calls : goal.returns-clause-calls
returns-clause-calls g c =
    let it = c.admit.ensures.calls in
    let next = c.ready.ensures.calls in
    record {
      calls = it.calls ++ next.calls;
      follows = covers-both c.args.horizon.now c.admit.new.self c.args.iv.now c.ready.new.self c.args.at it.calls c.admit.result c.ready.result it.follows next.calls c.in_ok-admit.was
          (subst (λ n. Readies c.args.iv.now n next.calls c.ready.result c.ready.new.self) c.next-next.ensures.value next.follows);
      asked = asks_then it.asked next.asked;
      held = next.held ∙ it.held;
    }
