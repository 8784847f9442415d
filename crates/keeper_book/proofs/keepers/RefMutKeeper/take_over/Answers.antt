-- The call that was passed on.
use Rattle.keeper_book.proofs.Asking.{asks_lent}
use Rattle.keeper_book.proofs.keepers.RefMutKeeper.take_over.Goals as goal

pub returns-clause-call : goal.returns-clause-call
returns-clause-call g c = let call = c.take_over.ensures.call in (call.0, call.1, asks_lent _ _ _ call.2)
