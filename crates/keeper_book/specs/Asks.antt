-- The words for the contract of every function that may ask a keeper.
use Rattle.std.specs.Prelude.{◌≡◌, List}
use Rattle.keeper_book.specs.declared.calls.Call.{Call}
use Rattle.keeper_book.specs.declared.keepers.Keeper.{Ghosts}
use Rattle.keeper_book.specs.Spoken.{Spoken}

-- These calls were asked of the keeper, in this order, and no others.
abbrev pub Asks : {K : Type 0} → Ghosts K → K → List Call → K → Type 0
Asks keeper old calls new =
    Spoken keeper.book keeper.calls keeper.faults keeper.call_gives old calls new

-- Some calls were asked of the keeper, which follow this rule, and it is reached by the same
-- references as before. A function that takes `keeper: &mut K` writes `AsksFor K.Keeper keeper.old
-- keeper.new (λ calls. ..)`.
pub record AsksFor {K : Type 0} (keeper : Ghosts K) (old new : K)
    (rule : List Call → Type 0) : Type 0 where
  pub calls : List Call
  pub follows : rule calls
  pub asked : Asks keeper old calls new
  pub held : keeper.held new ≡ keeper.held old
