-- The Message IDs of the requests that are outstanding lie below the next one.
use Rattle.std.proofs.Common.{ℕ, ◌+◌, ◌≤◌, ◌==◌, not, List, [], ◌∷◌, ◌++◌, filter}
use Rattle.ike_window.specs.Kept.{AllBelow, KeptMessage}
use Rattle.ike_window.proofs.Rising.{below_filtered, below_higher, below_pushed}

pub below_later : (next id : ℕ) (kept : List KeptMessage) → next ≤ id → AllBelow next kept → AllBelow id kept
below_later next id kept up below = below_higher next id kept up below

pub below_asked : (next id : ℕ) (octets : List ℕ) (kept : List KeptMessage) → next ≤ id → AllBelow next kept →
    AllBelow (id + 1) (kept ++ record { id = id; octets = octets } ∷ [])
below_asked next id octets kept up below = below_pushed id octets kept (below_higher next id kept up below)

pub below_ended : (next id : ℕ) (kept : List KeptMessage) → AllBelow next kept → AllBelow next (filter (λ message. not (message.id == id)) kept)
below_ended next id kept below = below_filtered (λ message. not (message.id == id)) next kept below
