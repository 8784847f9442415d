-- What an end asks: at most a window of requests at once (RFC 7296, section 2.3).
use Rattle.std.specs.Prelude.{ℕ, ◌+◌, ◌^◌, ◌<◌, ◌≤◌, List, All, Contains}
use Rattle.ike_window.specs.declared.TheConstants.{WINDOW}
use Rattle.ike_window.specs.Kept.{KeptMessage, RiseFrom, message_ids_of}
use Rattle.ike_window.specs.Slots.{SlidingRing}

-- the request of this Message ID fits the window from each that is outstanding
abbrev pub FitsBeside : ℕ → List KeptMessage → Type 0
FitsBeside id outstanding = All (λ other. id < other + WINDOW) (message_ids_of outstanding)

abbrev pub IsLeast : List ℕ → ℕ → Type 0
IsLeast ids least = Contains ids least × All (λ other. least ≤ other) ids

-- the requests rise, and each Message ID that has a slot is a number of 32 bits
pub record IsAscending (ring : SlidingRing) : Type 0 where
  pub rising : RiseFrom 0 ring.kept
  pub within : ring.first + WINDOW ≤ 2 ^ 32
