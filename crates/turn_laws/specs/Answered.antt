-- Which requests an end answered, and with which octets, by the turns that took them.
use Rattle.std.specs.Prelude.{◌≡◌, ℕ, ◌+◌, ◌≤◌, ◌↔◌, List, Contains}
use Rattle.std.specs.List.{filter_map}
use Rattle.events.specs.declared.event.Event.{Event}
use Rattle.events.specs.declared.turn.Turn.{Turn}
use Rattle.ike_window.specs.Kept.{kept_octets}
use Rattle.ike_window.specs.Windows.{IsAnswered, ResponseWindow}
use Rattle.ike_window.specs.declared.TheConstants.{WINDOW}
use Rattle.turn_laws.specs.Turns.{answered}
use Rattle.turn_rules.specs.IkeState.{turn_response}
use Rattle.turn_rules.specs.Tasks.{Task}

-- the Message IDs of the association's requests that were taken in these turns
abbrev pub ids_taken : ℕ → List Turn → List ℕ
ids_taken spir turns = filter_map (λ turn. answered spir turn.event turn.step.verdict) turns

-- What is kept of answered requests is what turns say that took some: from the floor on just these
-- count as answered, and those that may be repeated have the octets that were given for them.
pub record KeepsTaken (window : ResponseWindow) (task_of : Event → Task) (spir : ℕ)
    (turns : List Turn) : Type 0 where
  pub taken : (id : ℕ) → window.floor ≤ id
      → IsAnswered window id ↔ Contains (ids_taken spir turns) id
  pub octets : (id : ℕ) → window.floor ≤ id → window.low ≤ id + WINDOW
      → kept_octets id window.responses
      ≡ kept_octets id (filter_map (turn_response task_of spir) turns)
