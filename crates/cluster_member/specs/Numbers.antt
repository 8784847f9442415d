-- A number of a counter is made ready, and then the next IV, by the calls that were made.
use Rattle.std.specs.Prelude.{ℕ, ◌+◌, ◌≡◌, List, [], Result, Ok, Err}
use Rattle.horizons.specs.Reaches.{Reach}
use Rattle.horizons.specs.Ready.{Ready, next_number}
use Rattle.horizons.specs.declared.stop.Stop.{Stop}
use Rattle.keeper_book.specs.declared.calls.Call.{Call}
use Rattle.spend_once.specs.Lot.{Drawn}

-- nothing more was asked, the answer is this one, and both horizons are so
pub record LeavesBoth (calls : List Call) {T : Type 0} (result value : T)
    (first first_is second second_is : Reach) : Type 0 where
  pub no_more : calls ≡ []
  pub answered : result ≡ value
  pub first_after : first ≡ first_is
  pub second_after : second ≡ second_is

-- the calls that make a number ready, and then the next one of another counter, what is answered of
-- that one, and what both horizons are then
abbrev pub ReadiesBoth : Reach → ℕ → Reach → List Call → Result Drawn Stop → Reach → Reach → Type 0
ReadiesBoth first at second calls result now then = Ready first at calls
    (λ why rest. LeavesBoth rest result (Err why) now first then second)
    (λ high rest. Ready second second.next rest
    (λ why more. LeavesBoth more result (Err why) now (record first { high = high }) then second)
    (λ above more. LeavesBoth more result (Ok (next_number second)) now
    (record first { high = high }) then (record second { next = second.next + 1; high = above })))

-- the same calls where that one is not given yet
abbrev pub CoversBoth : Reach → ℕ → Reach → List Call → Result (Unit {0}) Stop → Reach → Reach
    → Type 0
CoversBoth first at second calls result now then = Ready first at calls
    (λ why rest. LeavesBoth rest result (Err why) now first then second)
    (λ high rest. Ready second second.next rest
    (λ why more. LeavesBoth more result (Err why) now (record first { high = high }) then second)
    (λ above more. LeavesBoth more result (Ok tt) now
    (record first { high = high }) then (record second { high = above })))
