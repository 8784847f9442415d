-- How a number is drawn for what is resumed with a ticket: the keeper is asked first whether the
-- ticket was spent (RFC 5723, section 4.3.2).
use Rattle.std.specs.Prelude.{ℕ, ◌≡◌, true, false, List, [], ◌∷◌, Result, Ok, Err, Option, Some, None}
use Rattle.keeper_book.specs.Told.{seen}
use Rattle.keeper_book.specs.declared.calls.Call.{Call}
use Rattle.keeper_book.specs.declared.calls.KeeperAnswer.{KeeperAnswer}
use Rattle.keeper_book.specs.declared.calls.KeeperAnswer.TheVariants as answer
use Rattle.keeper_book.specs.declared.calls.KeeperAsk.TheVariants as ask
use Rattle.keeper_book.specs.declared.faults.KeeperFault.{KeeperFault}
use Rattle.keeper_book.specs.declared.pools.Pool.TheVariants as pool
use Rattle.spend_once.specs.Lot.{Drawn, Remaining}
use Rattle.pool_lots.specs.Lots.{DrawsPooled}

-- nothing more was asked, the answer is this one, and the lot is as it was
pub record Stops (calls : List Call) (result value : Result (Option Drawn) KeeperFault)
    (old new : Remaining) : Type 0 where
  pub no_more : calls ≡ []
  pub answered : result ≡ value
  pub unchanged : new ≡ old

-- a number that was drawn is given
abbrev pub given : Result Drawn KeeperFault → Result (Option Drawn) KeeperFault
given (Ok number) = Ok (Some number)
given (Err why) = Err why

-- the next number of the lot is drawn, or that of a new range
pub record Draws (calls : List Call) (result : Result (Option Drawn) KeeperFault)
    (old new : Remaining) : Type 0 where
  pub drawn : Result Drawn KeeperFault
  pub draws : DrawsPooled pool.Nonce old calls drawn new
  pub answered : result ≡ given drawn

-- what follows the answer to a look: the call failed, or the ticket is spent, or it is not
abbrev pub FollowsLook : KeeperAnswer → List Call → Result (Option Drawn) KeeperFault
    → Remaining → Remaining → Type 0
FollowsLook (answer.Refused why) calls result old new = Stops calls result (Err why) old new
FollowsLook (answer.Look true) calls result old new = Stops calls result (Ok None) old new
FollowsLook (answer.Look false) calls result old new = Draws calls result old new
FollowsLook answered calls result old new = ⊥

-- the first call is a look at the ticket
abbrev pub DrawsUnlessSpent : ℕ → Remaining → List Call → Result (Option Drawn) KeeperFault
    → Remaining → Type 0
DrawsUnlessSpent ticket old [] result new = ⊥
DrawsUnlessSpent ticket old (call ∷ calls) result new =
    (call.asked ≡ ask.Look ticket) × FollowsLook (seen call) calls result old new
