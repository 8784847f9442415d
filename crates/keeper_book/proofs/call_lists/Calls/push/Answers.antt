-- The next place is filled.
use Rattle.std.proofs.Common.{◌∙◌, ap, ◌++◌, ◌∷◌, [], arith, length, ◌<◌}
use Rattle.keeper_book.proofs.Placed.{placed_next, are_placed_next}
use Rattle.keeper_book.proofs.call_lists.Calls.push.Goals as goal

pub invariant_of-self : goal.invariant_of-self
invariant_of-self c =
    let few : c.self.inside.count < 8 = omega (arith, ap length c.self.view_is) in
    are_placed_next c.self.inside.places c.self.inside.count c.args.call few c.self.invariant

pub returns : goal.returns
returns c =
    let few : c.self.inside.count < length c.self.inside.places = omega (arith, ap length c.self.view_is) in
    placed_next c.self.inside.places c.self.inside.count c.args.call few ∙ ap (λ l. l ++ c.args.call ∷ []) c.self.view_is
