-- The numbers of tickets that a member has left, as its turns tell it.
use Rattle.std.specs.Prelude.{ℕ, ◌+◌, Option, Some, None, List, [], ◌∷◌}
use Rattle.events.specs.declared.ike_outcomes.Mark.TheVariants as mark
use Rattle.events.specs.declared.turn.Step.{Step}
use Rattle.events.specs.declared.turn.Turn.{Turn}
use Rattle.events.specs.declared.verdict.Verdict.{Verdict}
use Rattle.events.specs.declared.verdict.Verdict.TheVariants as out
use Rattle.keeper_book.specs.Told.{seen}
use Rattle.keeper_book.specs.declared.calls.Call.{Call}
use Rattle.keeper_book.specs.declared.calls.KeeperAnswer.{KeeperAnswer}
use Rattle.keeper_book.specs.declared.calls.KeeperAnswer.TheVariants as answer
use Rattle.keeper_book.specs.declared.calls.KeeperAsk.{KeeperAsk}
use Rattle.keeper_book.specs.declared.calls.KeeperAsk.TheVariants as ask
use Rattle.keeper_book.specs.declared.pools.Pool.TheVariants as pool
use Rattle.keeper_book.specs.declared.pools.TheConstants.{FIRST_POOL_NUMBER}
use Rattle.pool_lots.specs.Lots.{leased_lot}
use Rattle.spend_once.specs.Lot.{Remaining}
use Rattle.turn_rules.specs.Configurations.{first_ticket_counter}
use Rattle.turn_rules.specs.Held.{found}

-- before the first range was leased no number is left
abbrev pub no_ticket_numbers : Remaining
no_ticket_numbers = record {
  name = first_ticket_counter;
  next = FIRST_POOL_NUMBER;
  end = FIRST_POOL_NUMBER;
}

-- the first number of a range of tickets that the member saw leased
abbrev pub first_leased : KeeperAsk → KeeperAnswer → Option ℕ
first_leased (ask.Lease pool.Ticket count) (answer.First first) = Some first
first_leased asked answered = None

abbrev pub lease_in : List Call → Option ℕ
lease_in calls = found (λ call. first_leased call.asked (seen call)) calls

-- the number of the ticket that stood in a response
abbrev pub ticket_number : Verdict → Option ℕ
ticket_number (out.Executed name id (mark.Ticket number)) = Some number
ticket_number verdict = None

abbrev pub after_lease : Option ℕ → Remaining → Remaining
after_lease None lot = lot
after_lease (Some first) lot = leased_lot lot first

abbrev pub after_ticket : Option ℕ → Remaining → Remaining
after_ticket None lot = lot
after_ticket (Some number) lot = record lot { next = number + 1 }

-- the numbers that are left after a turn: of the range that it leased, if it did, those above the
-- number of the ticket that it sealed
abbrev pub numbers_after : List Call → Step → Remaining → Remaining
numbers_after calls step lot =
    after_ticket (ticket_number step.verdict) (after_lease (lease_in calls) lot)

-- and after an end's own turns
abbrev pub numbers_by : List Turn → Remaining
numbers_by [] = no_ticket_numbers
numbers_by (turn ∷ past) = numbers_after turn.calls turn.step (numbers_by past)
