-- What an end holds, its own turns tell.
use Rattle.std.specs.Prelude.{ℕ, ◌<◌, ◌≤◌, ◌≡◌, Option, Some, None, List}
use Rattle.events.specs.declared.turn.Turn.{Turn}
use Rattle.spend_once.specs.Lot.{Remaining}
use Rattle.turn_laws.specs.Holdings.{Holding}
use Rattle.turn_rules.specs.Configurations.{first_ticket_counter}
use Rattle.turn_rules.specs.States.{state_by, told_state}
use Rattle.turn_rules.specs.TicketNumbers.{no_ticket_numbers}

-- What the turns of a run make of what its ends hold is what each end's own turns tell of it, with
-- greatest numbers and sets of numbers, whatever the other ends did between them.
abbrev pub OwnTurnsTell : ℕ → List Turn → Type 0
OwnTurnsTell boxes past = state_by boxes past ≡ told_state boxes past

-- the number is left in a lot
pub record IsLeftIn (lot : Remaining) (n : ℕ) : Type 0 where
  pub from_next : lot.next ≤ n
  pub below_end : n < lot.end

-- what is left of a lot of tickets: before the first one is leased, no number
abbrev pub left_of_lot : Option Holding → Remaining
left_of_lot None = no_ticket_numbers
left_of_lot (Some lot) = record { name = first_ticket_counter; next = lot.next; end = lot.high }
