-- What a member holds, and what a turn makes of it.
use Rattle.std.specs.Prelude.{ℕ, Bool, true, false, Option, None, List}
use Rattle.std.specs.Option.{option_map}
use Rattle.events.specs.declared.turn.Step.{Step}
use Rattle.events.specs.declared.turn.Turn.{Turn}
use Rattle.ha_base.specs.declared.outside.Moment.{Moment}
use Rattle.keeper_book.specs.declared.calls.Call.{Call}
use Rattle.spend_once.specs.Lot.{Remaining}
use Rattle.turn_rules.specs.Configurations.{Configuration, Membership, fresh_in, membership}
use Rattle.turn_rules.specs.Held.{Held, first_some, found, held_after, held_by}
use Rattle.turn_rules.specs.Tasks.{Task}
use Rattle.turn_rules.specs.TicketNumbers.{no_ticket_numbers, numbers_after, numbers_by}

-- What a member holds: what it was given as it joined, if it did, what it holds of each association,
-- by the responder's SPI, and the numbers of tickets that it has left.
pub record MemberHeld : Type 0 where
  pub given : Option Membership
  pub held : ℕ → Option Held
  pub numbers : Remaining

-- a member that has not joined
abbrev pub no_member : MemberHeld
no_member = record { given = None; held = λ spir. None; numbers = no_ticket_numbers }

-- what a member has; once it ended that is nothing
abbrev pub held_unless : {X : Type 0} → Bool → Option X → Option X
held_unless true held = None
held_unless false held = held

abbrev pub numbers_unless : Bool → Remaining → Remaining
numbers_unless true numbers = no_ticket_numbers
numbers_unless false numbers = numbers

-- what a member holds; once it ended that is nothing
abbrev pub member_unless : Bool → MemberHeld → MemberHeld
member_unless ended m = record {
  given = held_unless ended m.given;
  held = λ spir. held_unless ended (m.held spir);
  numbers = numbers_unless ended m.numbers;
}

-- what a member holds after a task of its own at a moment, by the configuration of the cluster;
-- fresh: the octets of its own that it was given, where it joined
abbrev pub member_after : Configuration → Moment → Option (List ℕ) → Task → List Call → Step
    → MemberHeld → MemberHeld
member_after config now fresh asked calls step m = record {
  given = first_some (option_map (membership config) fresh) m.given;
  held = λ spir. held_after config.window spir asked calls step (m.held spir);
  numbers = numbers_after calls step m.numbers;
}

-- the fresh octets of a member that joined in a turn
abbrev pub fresh_at : Turn → Option (List ℕ)
fresh_at turn = fresh_in turn.event turn.step.verdict

-- what a member holds, as the configuration and its own turns tell it
abbrev pub member_by : Configuration → List Turn → MemberHeld
member_by config past = record {
  given = option_map (membership config) (found fresh_at past);
  held = held_by config.window past;
  numbers = numbers_by past;
}
