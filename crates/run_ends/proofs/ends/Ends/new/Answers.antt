-- Before the first turn the ends hold what there is at first.
use Rattle.std.proofs.Common.{rules, ◌≡◌, List, [], sym, subst}
use Rattle.events.specs.declared.turn.Turn.{Turn}
use Rattle.run_ends.proofs.KeptLaws.{kept-at_first}
use Rattle.run_ends.proofs.ends.Ends.new.Goals as goal
use Rattle.run_ends.specs.Parties.{AreKept}

pub invariant_of-result : goal.invariant_of-result
invariant_of-result c =
    let none : c.new-2.result.past ≡ [] = search rules in
    subst (λ (past : List Turn). AreKept past c.new.result) (sym none) (subst (AreKept []) (sym c.new.ensures) (kept-at_first c.args.boxes))
