-- What is kept of responses, as they are stored one after another.
use Rattle.std.specs.Prelude.{ℕ, ◌+◌, ◌==◌, max, List, [], ◌∷◌, filter, if◌then◌else◌}
use Rattle.ike_window.specs.Kept.{KeptMessage, by_message_id, with_kept}
use Rattle.ike_window.specs.Windows.{ResponseWindow, is_repeatable}

-- the least Message ID from this one on that is not among these messages, which ascend by it
abbrev pub least_free : ℕ → List KeptMessage → ℕ
least_free from [] = from
least_free from (message ∷ rest) =
    if message.id == from then least_free (from + 1) rest else least_free from rest

-- what is kept where each Message ID from the floor up to `from` was answered, and these, which
-- ascend by Message ID
abbrev pub window_from : ℕ → ℕ → List KeptMessage → ResponseWindow
window_from floor from responses = record {
  floor = floor;
  low = least_free from responses;
  responses = filter (is_repeatable floor (least_free from responses)) responses;
}

-- a window that starts at this Message ID, with nothing answered
abbrev pub no_responses : ℕ → ResponseWindow
no_responses floor = record { floor = floor; low = floor; responses = [] }

-- a response is stored beside what is kept
abbrev pub with_response : KeptMessage → ResponseWindow → ResponseWindow
with_response response old = window_from old.floor old.low (with_kept response old.responses)

-- the floor is raised to this Message ID, where it is above it: the requests below are given up
abbrev pub raised_to : ℕ → ResponseWindow → ResponseWindow
raised_to to old = window_from (max old.floor to) (max old.low to) old.responses

-- what is kept of all responses that were stored, the newest first, where this is the floor
abbrev pub window_of_responses : ℕ → List KeptMessage → ResponseWindow
window_of_responses floor stored = window_from floor floor (by_message_id stored)
