-- The call that was passed on.
use Rattle.keeper_book.proofs.Asking.{asks_lent}
use Rattle.keeper_book.proofs.keepers.RefMutKeeper.lease.Goals as goal

pub returns-clause-call : goal.returns-clause-call
returns-clause-call g c = let call = c.lease.ensures.call in (call.0, call.1, asks_lent _ _ _ call.2)
