-- What an end keeps of the requests that it answered.
use Rattle.std.specs.Prelude.{◌≡◌, ℕ, ◌+◌, ◌<◌, ◌≤◌, ◌⊎◌, ◌&&◌, max, nat_le, true, Bool, List, filter, Contains}
use Rattle.ike_window.specs.declared.TheConstants.{LAST_ID, WINDOW}
use Rattle.ike_window.specs.Kept.{AllBelow, KeptMessage, RiseFrom, message_ids_of, has_message_id}
use Rattle.ike_window.specs.Requests.{IsLeastFree}
use Rattle.ike_window.specs.Slots.{SlidingRing}

-- the Message IDs below the floor are given up, `low` is the least from the floor on that was not
-- answered, and the responses that may be asked for again stand in ascending order of Message ID
pub record ResponseWindow : Type 0 where
  pub floor : ℕ
  pub low : ℕ
  pub responses : List KeptMessage

-- a request from the floor on was answered: each below `low`, and those whose responses are kept
abbrev pub IsAnswered : ResponseWindow → ℕ → Type 0
IsAnswered window id =
    ((window.floor ≤ id) × (id < window.low)) ⊎ Contains (message_ids_of window.responses) id

-- a response that may be asked for again, as far as one window below the low
abbrev pub is_repeatable : ℕ → ℕ → KeptMessage → Bool
is_repeatable floor low response = nat_le floor response.id && nat_le low (response.id + WINDOW)

-- the floor is raised to this Message ID, where it is above it
pub record Jumps (to : ℕ) (old new : ResponseWindow) : Type 0 where
  pub floor : new.floor ≡ max old.floor to
  pub low : IsLeastFree new.floor (IsAnswered old) new.low
  pub responses : new.responses ≡ filter (is_repeatable new.floor new.low) old.responses

-- the responses are those that may be asked for again, in the slots of a ring
pub record IsWindow (floor low : ℕ) (ring : SlidingRing) : Type 0 where
  pub ordered : floor ≤ low
  pub rising : RiseFrom 0 ring.kept
  pub room_below : ring.first ≤ low
  pub room_above : low ≤ ring.first + WINDOW
  pub from : (id : ℕ) → has_message_id (message_ids_of ring.kept) id ≡ true → floor ≤ id
  pub near : (id : ℕ) → has_message_id (message_ids_of ring.kept) id ≡ true → low ≤ id + WINDOW
  pub below : AllBelow (low + WINDOW) ring.kept
  pub below_the_end : AllBelow LAST_ID ring.kept
  pub free : ¬ Contains (message_ids_of ring.kept) low
  pub whole :
      (id : ℕ) → floor ≤ id → id < low → low ≤ id + WINDOW →
      Contains (message_ids_of ring.kept) id
