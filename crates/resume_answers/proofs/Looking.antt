-- A look at a ticket that is not spent, and then a draw.
use Rattle.std.proofs.Common.{◌≡◌, ℕ, [], ◌∷◌, false, Result, Option, subst, sym, ◌∙◌}
use Rattle.keeper_book.proofs.Asking.{asks_then}
use Rattle.keeper_book.specs.Asks.{Asks, AsksFor}
use Rattle.keeper_book.specs.Told.{IsCallOf}
use Rattle.keeper_book.specs.declared.calls.Call.{Call}
use Rattle.keeper_book.specs.declared.calls.KeeperAnswer.TheVariants as answer
use Rattle.keeper_book.specs.declared.calls.KeeperAsk.TheVariants as ask
use Rattle.keeper_book.specs.declared.faults.KeeperFault.{KeeperFault}
use Rattle.keeper_book.specs.declared.keepers.Keeper.{Ghosts}
use Rattle.keeper_book.specs.declared.pools.Pool.TheVariants as pool
use Rattle.spend_once.specs.Lot.{Drawn, Remaining}
use Rattle.pool_lots.specs.Lots.{DrawsPooled}
use Rattle.resume_answers.specs.Unspent.{DrawsUnlessSpent, FollowsLook, given}

pub draws_then : {K : Type 0} (keeper : Ghosts K) (old mid new : K) (call : Call) (ticket : ℕ) (lot left : Remaining) (drawn : Result Drawn KeeperFault)
    (result : Result (Option Drawn) KeeperFault) → IsCallOf (ask.Look ticket) (answer.Look false) call → Asks keeper old (call ∷ []) mid → keeper.held mid ≡ keeper.held old →
    AsksFor keeper mid new (λ calls. DrawsPooled pool.Nonce lot calls drawn left) → result ≡ given drawn →
    AsksFor keeper old new (λ calls. DrawsUnlessSpent ticket lot calls result left)
draws_then keeper old mid new call ticket lot left drawn result is asked held draws same = record {
  calls = call ∷ draws.calls;
  follows = (is.asks, subst (λ a. FollowsLook a draws.calls result lot left) (sym is.sees) (record { drawn = drawn; draws = draws.follows; answered = same }));
  asked = asks_then asked draws.asked;
  held = draws.held ∙ held;
}
