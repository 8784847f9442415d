-- What a window says of a request, by the Message IDs of the requests that were answered (RFC 7296,
-- sections 2.1 to 2.3).
use Rattle.std.specs.Prelude.{◌≡◌, ℕ, ◌+◌, ◌<◌, ◌≤◌, ◌⊎◌}
use Rattle.ike_window.specs.declared.TheConstants.{LAST_ID, WINDOW}
use Rattle.ike_window.specs.declared.judged.Judged.{Judged}
use Rattle.ike_window.specs.declared.judged.Judged.TheVariants.{Ahead, New, Old, Repeat}

-- the least number from n on of which this does not hold
pub record IsLeastFree (n : ℕ) (IsTaken : ℕ → Type 0) (low : ℕ) : Type 0 where
  pub from : n ≤ low
  pub taken : (m : ℕ) → n ≤ m → m < low → IsTaken m
  pub free : ¬ IsTaken low

-- `low` is the least Message ID from the floor on that was not answered. No request has the last
-- Message ID, since Message IDs don't wrap (RFC 7296, section 2.2)
pub record IsNewRequest (low : ℕ) (IsAnswered : ℕ → Type 0) (id : ℕ) : Type 0 where
  pub from : low ≤ id
  pub within : id < low + WINDOW
  pub unanswered : ¬ IsAnswered id
  pub below_the_end : id < LAST_ID

pub record IsRepeat (floor low : ℕ) (IsAnswered : ℕ → Type 0) (id : ℕ) : Type 0 where
  pub answered : IsAnswered id
  pub from : floor ≤ id
  pub near : low ≤ id + WINDOW

abbrev pub IsAhead : ℕ → ℕ → Type 0
IsAhead low id = (low + WINDOW ≤ id) ⊎ (id ≡ LAST_ID)

-- the four judgements: Old is every other case
abbrev pub IsRequestJudgedBy : ℕ → ℕ → (ℕ → Type 0) → ℕ → Judged → Type 0
IsRequestJudgedBy floor low IsAnswered id New = IsNewRequest low IsAnswered id
IsRequestJudgedBy floor low IsAnswered id Repeat = IsRepeat floor low IsAnswered id
IsRequestJudgedBy floor low IsAnswered id Ahead = IsAhead low id
IsRequestJudgedBy floor low IsAnswered id Old =
    (¬ IsNewRequest low IsAnswered id) × (¬ IsRepeat floor low IsAnswered id) × (¬ IsAhead low id)
