-- What was asked of a keeper behind a gate, as those saw it who asked the gate.
use Rattle.std.specs.Prelude.{List, [], ◌∷◌}
use Rattle.events.specs.declared.turn.Turn.{Turn}
use Rattle.keeper_book.specs.Asks.{Asks}
use Rattle.keeper_book.specs.Told.{IsCallOf, seen}
use Rattle.keeper_book.specs.declared.calls.Call.{Call}
use Rattle.keeper_book.specs.declared.keepers.Keeper.{Ghosts}

-- the same calls one by one, the first ones with the answers that the caller of the others saw
abbrev pub AreSeenAs : List Call → List Call → Type 0
AreSeenAs [] [] = Unit {0}
AreSeenAs (call ∷ calls) (made ∷ more) = IsCallOf call.asked (seen call) made × AreSeenAs calls more
AreSeenAs calls made = ⊥

-- calls were asked of the keeper, in this order, and no others, and these are what their caller saw
-- of them
pub record AsksAsSeen {K : Type 0} (keeper : Ghosts K) (old : K) (calls : List Call)
    (new : K) : Type 0 where
  pub made : List Call
  pub seen_as : AreSeenAs calls made
  pub asked : Asks keeper old made new

-- the calls of the newest turn
abbrev pub newest_calls : List Turn → List Call
newest_calls [] = []
newest_calls (turn ∷ past) = turn.calls
