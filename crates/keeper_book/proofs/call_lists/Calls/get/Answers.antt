-- What stands at a place is the item there.
use Rattle.std.proofs.Common.{◌∙◌, ap}
use Rattle.std.specs.List.{slice_get}
use Rattle.keeper_book.proofs.Placed.{placed_read, placed_past}
use Rattle.keeper_book.proofs.call_lists.Calls.get.Goals as goal

pub returns-then-at-self : goal.returns-then-at-self
returns-then-at-self c =
    c.as_ref.ensures.value ∙ (placed_read _ _ _ _ c.self.invariant c.if-at-self.true c.index-self-at.is ∙ ap (λ l. slice_get l c.args.at) c.self.view_is)

pub returns-else-at-self : goal.returns-else-at-self
returns-else-at-self c = placed_past _ _ _ c.self.invariant c.if-at-self.false ∙ ap (λ l. slice_get l c.args.at) c.self.view_is
