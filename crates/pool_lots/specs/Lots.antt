-- How a number of a pool is drawn: from what is left of the range that was leased last, and else
-- from a new one. A rule reads the calls of a turn one after another: `stops` says what holds of the
-- calls that are left after a refusal, and `goes` what holds of the number, the lot and them.
use Rattle.std.specs.Prelude.{ℕ, ◌+◌, ◌<◌, ◌≤◌, ◌≡◌, List, [], ◌∷◌, Result, Ok, Err}
use Rattle.keeper_book.specs.Pools.{pool_end}
use Rattle.keeper_book.specs.Told.{seen}
use Rattle.keeper_book.specs.declared.calls.Call.{Call}
use Rattle.keeper_book.specs.declared.calls.KeeperAnswer.{KeeperAnswer}
use Rattle.keeper_book.specs.declared.calls.KeeperAnswer.TheVariants as answer
use Rattle.keeper_book.specs.declared.calls.KeeperAsk.TheVariants as ask
use Rattle.keeper_book.specs.declared.faults.KeeperFault.{KeeperFault}
use Rattle.keeper_book.specs.declared.pools.Pool.{Pool}
use Rattle.keeper_book.specs.declared.pools.TheConstants.{FIRST_POOL_NUMBER}
use Rattle.spend_once.specs.Lot.{Drawn, Remaining}
use Rattle.pool_lots.specs.declared.lots.TheConstants.{LEASED_NUMBERS}

-- the number is one of the pool
pub record IsNumberOf (pool : Pool) (n : ℕ) : Type 0 where
  pub begins : FIRST_POOL_NUMBER ≤ n
  pub ends : n < pool_end pool

-- the numbers that are left in a lot are numbers of the pool
pub record AreNumbersOf (pool : Pool) (lot : Remaining) : Type 0 where
  pub begins : FIRST_POOL_NUMBER ≤ lot.next
  pub ends : lot.end ≤ pool_end pool

-- the lot without its next number
abbrev pub drawn_once : Remaining → Remaining
drawn_once lot = record lot { next = lot.next + 1 }

-- a lot of the range that begins with this number
abbrev pub leased_lot : Remaining → ℕ → Remaining
leased_lot lot first = record lot { next = first; end = first + LEASED_NUMBERS }

-- what follows the answer to a lease
abbrev pub Leased : KeeperAnswer → (KeeperFault → Type 0) → (ℕ → Type 0) → Type 0
Leased (answer.First first) stops goes = goes first
Leased (answer.Refused why) stops goes = stops why
Leased answered stops goes = ⊥

-- the next call leases a range, whose first number is drawn
abbrev pub Leases : Pool → Remaining → List Call → (KeeperFault → List Call → Type 0)
    → (ℕ → Remaining → List Call → Type 0) → Type 0
Leases pool lot [] stops goes = ⊥
Leases pool lot (call ∷ calls) stops goes = (call.asked ≡ ask.Lease pool LEASED_NUMBERS)
    × Leased (seen call) (λ why. stops why calls)
    (λ first. goes first (drawn_once (leased_lot lot first)) calls)

-- the next number of a lot is drawn, where one is left, and else that of a new range
pub record LotReady (pool : Pool) (lot : Remaining) (calls : List Call)
    (stops : KeeperFault → List Call → Type 0)
    (goes : ℕ → Remaining → List Call → Type 0) : Type 0 where
  pub left : lot.next < lot.end → goes lot.next (drawn_once lot) calls
  pub none_left : lot.end ≤ lot.next → Leases pool lot calls stops goes

-- nothing more was asked, the answer is this one, and the lot is so
pub record LeavesLot (calls : List Call) (result value : Result Drawn KeeperFault)
    (lot is : Remaining) : Type 0 where
  pub no_more : calls ≡ []
  pub answered : result ≡ value
  pub after : lot ≡ is

-- the calls before a number of a pool is given, what is answered of it, and what the lot is then
abbrev pub DrawsPooled :
    Pool → Remaining → List Call → Result Drawn KeeperFault → Remaining → Type 0
DrawsPooled pool old calls result new = LotReady pool old calls
    (λ why rest. LeavesLot rest result (Err why) new old)
    (λ n lot rest. LeavesLot rest result (Ok (record { name = old.name; value = n })) new lot)
