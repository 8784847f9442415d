-- What the peer's own turns say of one of its counters.
use Rattle.std.specs.Prelude.{ℕ, ◌+◌, Option, List, [], ◌∷◌, ◌++◌, is_some, map, if◌then◌else◌}
use Rattle.std.specs.List.{flat_map}
use Rattle.std.specs.Option.{option_map}
use Rattle.events.specs.declared.turn.Turn.{Turn}
use Rattle.ha_base.specs.declared.counter_names.CounterName.{CounterName}
use Rattle.turn_laws.specs.Acts.{begun_by}
use Rattle.turn_laws.specs.Holdings.{Holding}
use Rattle.turn_laws.specs.Listed.{listed_at}
use Rattle.turn_laws.specs.Places.{Theirs}
use Rattle.turn_rules.specs.Held.{found, greatest}
use Rattle.turn_rules.specs.Peers.{entered_in}

-- what the peer holds of the counter of this name, where the association came to it
abbrev pub begun_in : CounterName → Turn → Option Holding
begun_in name turn = begun_by name (entered_in turn)

-- the turns since then
abbrev pub since_begun : CounterName → List Turn → List Turn
since_begun name [] = []
since_begun name (turn ∷ past) = if is_some (begun_in name turn) then []
    else turn ∷ since_begun name past

-- a holding of which these numbers were used besides
abbrev pub having_used : List ℕ → Holding → Holding
having_used ns h = record h {
  next = greatest h.next (map (λ n. n + 1) ns);
  numbers = ns ++ h.numbers;
}

-- what the peer, with these turns of its own, holds of its counter of this name, and what it used
-- of it
abbrev pub told_theirs : CounterName → List Turn → Option Holding
told_theirs name past =
    option_map (having_used (flat_map (listed_at (Theirs name)) (since_begun name past)))
    (found (begun_in name) past)
