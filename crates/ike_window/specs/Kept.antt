-- Messages that are kept under their Message IDs.
use Rattle.std.specs.Prelude.{ℕ, ◌+◌, ◌==◌, ◌<◌, ◌≤◌, ⊤, All, Bool, List, [], ◌∷◌, map, nat_le, Option, Some, None, if◌then◌else◌}
use Rattle.std.specs.List.{list_any}

-- a message that is kept: its Message ID and its octets
pub record KeptMessage : Type 0 where
  pub id : ℕ
  pub octets : List ℕ

abbrev pub message_ids_of : List KeptMessage → List ℕ
message_ids_of kept = map (λ message. message.id) kept

abbrev pub has_message_id : List ℕ → ℕ → Bool
has_message_id ids id = list_any (λ other. other == id) ids

-- the octets that are kept under a Message ID, and none where it is not among them
abbrev pub kept_octets : ℕ → List KeptMessage → Option (List ℕ)
kept_octets id [] = None
kept_octets id (message ∷ rest) = if message.id == id then Some message.octets
    else kept_octets id rest

-- the Message IDs rise, from at least this one on
abbrev pub RiseFrom : ℕ → List KeptMessage → Type 0
RiseFrom least [] = ⊤
RiseFrom least (message ∷ rest) = (least ≤ message.id) × RiseFrom (message.id + 1) rest

abbrev pub AllBelow : ℕ → List KeptMessage → Type 0
AllBelow end kept = All (λ id. id < end) (message_ids_of kept)

-- one message more, before the first whose Message ID is not below its own
abbrev pub with_kept : KeptMessage → List KeptMessage → List KeptMessage
with_kept message [] = message ∷ []
with_kept message (other ∷ rest) =
    if nat_le message.id other.id then message ∷ other ∷ rest
    else other ∷ with_kept message rest

-- in ascending order of Message ID
abbrev pub by_message_id : List KeptMessage → List KeptMessage
by_message_id [] = []
by_message_id (message ∷ rest) = with_kept message (by_message_id rest)
