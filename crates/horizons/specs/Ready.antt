-- What makes a number of a counter ready to be used. A rule reads the calls of a turn one after
-- another: `stops` says what holds of the calls that are left after a stop, and `goes` what holds
-- of them, and of the high, where the number is ready.
use Rattle.std.specs.Prelude.{ℕ, ◌+◌, ◌<◌, ◌≤◌, ◌≡◌, MatchOption, List, [], ◌∷◌, Result, Ok, Err}
use Rattle.horizons.specs.Reaches.{Reach, cover_of}
use Rattle.horizons.specs.Stops.{stop_of}
use Rattle.horizons.specs.declared.stop.Stop.{Stop}
use Rattle.horizons.specs.declared.stop.Stop.TheVariants as stop
use Rattle.spend_once.specs.Lot.{Drawn}
use Rattle.keeper_book.specs.Told.{seen}
use Rattle.keeper_book.specs.declared.calls.Call.{Call}
use Rattle.keeper_book.specs.declared.calls.KeeperAnswer.{KeeperAnswer}
use Rattle.keeper_book.specs.declared.calls.KeeperAnswer.TheVariants as answer
use Rattle.keeper_book.specs.declared.calls.KeeperAsk.TheVariants as ask

-- what follows the answer to a cover
abbrev pub Answered : KeeperAnswer → (Stop → Type 0) → Type 0 → Type 0
Answered answer.Done stops goes = goes
Answered (answer.Refused why) stops goes = MatchOption (stop_of why) ⊥ stops
Answered answered stops goes = ⊥

-- the next call is the cover that the number asks for
abbrev pub Covers : Reach → ℕ → List Call → (Stop → List Call → Type 0) → (ℕ → List Call → Type 0)
    → Type 0
Covers h at [] stops goes = ⊥
Covers h at (call ∷ calls) stops goes =
    (call.asked ≡ ask.Cover h.spir h.name.kind h.name.child h.epoch (cover_of h at))
    × Answered (seen call) (λ why. stops why calls) (goes (cover_of h at) calls)

-- a number below the high is ready, one at the end of the counter never is, and any other one asks
-- for a cover
pub record Ready (h : Reach) (at : ℕ) (calls : List Call) (stops : Stop → List Call → Type 0)
    (goes : ℕ → List Call → Type 0) : Type 0 where
  pub within : at < h.high → goes h.high calls
  pub ended : h.high ≤ at → h.end ≤ at → stops stop.Exhausted calls
  pub asked : h.high ≤ at → at < h.end → Covers h at calls stops goes

-- the number that a horizon gives next
abbrev pub next_number : Reach → Drawn
next_number h = record { name = h.name; value = h.next }

-- nothing more was asked, the answer is this one, and the horizon is so
pub record Leaves (calls : List Call) {T : Type 0} (result value : T) (h is : Reach) : Type 0 where
  pub no_more : calls ≡ []
  pub answered : result ≡ value
  pub after : h ≡ is

-- the calls that make a number ready, what is answered, and what the horizon is then
abbrev pub Readies : Reach → ℕ → List Call → Result (Unit {0}) Stop → Reach → Type 0
Readies old at calls result new = Ready old at calls
    (λ why rest. Leaves rest result (Err why) new old)
    (λ high rest. Leaves rest result (Ok tt) new (record old { high = high }))

-- the calls before the next number is given, what is answered of it, and what the horizon is then
abbrev pub ReadiesNext : Reach → List Call → Result Drawn Stop → Reach → Type 0
ReadiesNext old calls result new = Ready old old.next calls
    (λ why rest. Leaves rest result (Err why) new old)
    (λ high rest. Leaves rest result (Ok (next_number old)) new
    (record old { next = old.next + 1; high = high }))
