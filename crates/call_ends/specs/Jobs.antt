-- What a command makes of its input.
use Rattle.ha_base.specs.declared.limits.TheConstants.{INPUT_OCTETS, PIECE_OCTETS}
use Rattle.std.specs.Prelude.{ℕ, ◌+◌, ◌≤◌, List, length, Option}
use Rattle.call_ends.specs.declared.status.Status.{Status}

-- A job: what may be wrong with its input, the line that says so on the error output, and what
-- stands on the output. `Makes` is of the octets that were read, of those that are left, of the
-- first fault, and of the whole output; `Begins` is of the status at which the call breaks off, of
-- the octets, and of what was written by then.
pub record Job : Type 1 where
  pub Fault : Type 0
  pub diagnosis : Fault → List ℕ
  pub Makes : (input more : List ℕ) → Option Fault → List ℕ → Type 0
  pub Begins : Status → (input more : List ℕ) → List ℕ → Type 0

-- not more octets were read than an input may have and a piece
abbrev pub IsBounded : List ℕ → Type 0
IsBounded input = length input ≤ INPUT_OCTETS + PIECE_OCTETS
