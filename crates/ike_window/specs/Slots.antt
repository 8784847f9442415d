-- Messages in the slots of a ring: a Message ID has the slot of its remainder.
use Rattle.std.specs.Prelude.{◌≡◌, ℕ, zero, suc, ◌+◌, ◌%◌, ◌==◌, ◌<◌, ◌≤◌, true, List, [], ◌∷◌, length, nat_le, slice_index_or, Option, None, Some, is_some, if◌then◌else◌}
use Rattle.ike_window.specs.Kept.{KeptMessage}

-- what contracts see of a ring: the messages that it keeps, in ascending order of Message ID, and
-- the first Message ID that it has a slot for
pub record SlidingRing : Type 0 where
  pub first : ℕ
  pub kept : List KeptMessage

abbrev pub octets_in_slot : Option KeptMessage → ℕ → Option (List ℕ)
octets_in_slot None id = None
octets_in_slot (Some message) id = if message.id == id then Some message.octets else None

-- the octets that these slots keep under a Message ID
abbrev pub octets_at : List (Option KeptMessage) → ℕ → Option (List ℕ)
octets_at slots id = octets_in_slot (slice_index_or slots (id % length slots) None) id

abbrev pub in_front : ℕ → Option (List ℕ) → List KeptMessage → List KeptMessage
in_front id None rest = rest
in_front id (Some octets) rest = record { id = id; octets = octets } ∷ rest

-- what the slots keep of so many Message IDs from this one on
abbrev pub messages_from : List (Option KeptMessage) → ℕ → ℕ → List KeptMessage
messages_from slots zero from = []
messages_from slots (suc count) from =
    in_front from (octets_at slots from) (messages_from slots count (from + 1))

-- the slots have room for some Message IDs from the first on, and keep no others
pub record IsRing (first : ℕ) (slots : List (Option KeptMessage)) : Type 0 where
  pub from : (id : ℕ) → is_some (octets_at slots id) ≡ true → first ≤ id
  pub below : (id : ℕ) → is_some (octets_at slots id) ≡ true → id < first + length slots

-- a message from this Message ID on
abbrev pub from_on : ℕ → Option KeptMessage → Option KeptMessage
from_on least None = None
from_on least (Some message) = if nat_le least message.id then Some message else None
