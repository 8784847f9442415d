-- What a member issues tickets with, and what it says of a ticket.
use Rattle.std.specs.Prelude.{ℕ, ◌≡◌, ◌≤◌, MatchOption, IfSome, Option, Some, None, IsSome, true, List, [], Result, Ok, Err}
use Rattle.aes_gcm.specs.NamedKey.{NamedKey}
use Rattle.events.specs.declared.seals.Seal.{Seal}
use Rattle.events.specs.declared.turn.Step.{Step}
use Rattle.events.specs.declared.verdict.Refusal.{Refusal}
use Rattle.events.specs.declared.verdict.Refusal.TheVariants as refusal
use Rattle.events.specs.declared.verdict.Verdict.TheVariants as out
use Rattle.ha_base.specs.Octets.{WithRoom}
use Rattle.ha_base.specs.declared.outside.Moment.{Moment}
use Rattle.ike_sas.specs.TicketMessages.{is_ticket_due}
use Rattle.ike_sas.specs.declared.ticket_messages.TicketAnswer.{TicketAnswer}
use Rattle.ike_sas.specs.declared.ticket_messages.TicketAnswer.TheVariants.{Declined, Issued}
use Rattle.keeper_book.specs.declared.calls.Call.{Call}
use Rattle.keeper_book.specs.declared.counters.Counter.{Counter}
use Rattle.keeper_book.specs.declared.faults.KeeperFault.{KeeperFault}
use Rattle.keeper_book.specs.declared.faults.KeeperFault.TheVariants as fault
use Rattle.keeper_book.specs.declared.records.Record.{Record}
use Rattle.sk_payload.specs.declared.open.Opened.{Opened}
use Rattle.spend_once.specs.Lot.{Remaining}
use Rattle.tickets.specs.declared.form.TheConstants.{LONGEST_TICKET}
use Rattle.turn_rules.specs.Configurations.{Configuration, default_configuration, first_ticket_counter, membership}
use Rattle.turn_rules.specs.Held.{covers_in, grant_in}
use Rattle.turn_rules.specs.MemberStates.{MemberHeld}
use Rattle.turn_rules.specs.MemberTickets.{SealsTicket, Tells, TellsIssued, TellsTicket, content_of}
use Rattle.turn_rules.specs.Steps.{Says}
use Rattle.turn_rules.specs.TicketNumbers.{numbers_after, ticket_number}

-- What a member issues tickets with: the key, where there is one, for how many seconds tickets are
-- taken, and the numbers that are left.
pub record Issuing : Type 0 where
  pub key : Option NamedKey
  pub lifetime : ℕ
  pub numbers : Remaining

-- the key is the first one of tickets
abbrev pub IsTicketCounter : Option NamedKey → Type 0
IsTicketCounter key = IfSome key (λ (k : NamedKey). k.name ≡ first_ticket_counter)

-- and the numbers are of its counter
pub record AreOfFirstKey (key : Option NamedKey) (numbers : Remaining) : Type 0 where
  pub first : IsTicketCounter key
  pub named : numbers.name ≡ first_ticket_counter
  pub ordered : numbers.next ≤ numbers.end

-- there is room for a ticket, and for its plaintext
pub record AreTicketRooms (plain sealed : WithRoom) : Type 0 where
  pub no_plain : plain.octets ≡ []
  pub plain_fits : LONGEST_TICKET ≤ plain.spare
  pub no_ticket : sealed.octets ≡ []
  pub ticket_fits : LONGEST_TICKET ≤ sealed.spare

-- there is room for a ticket, where one is due and there is a key
abbrev pub IsRoomFor : Option NamedKey → Opened → Option (Unit {0}) → Type 0
IsRoomFor key request room = is_ticket_due request ≡ true → IsSome key → IsSome room

-- a cluster with tickets that are taken for so many seconds
abbrev pub configuration_for : ℕ → Configuration
configuration_for lifetime = record default_configuration { lifetime = lifetime }

-- a member with these tickets, as the rules see it
abbrev pub member_issuing : Issuing → MemberHeld
member_issuing issuing = record {
  given = Some (membership
      (record default_configuration { lifetime = issuing.lifetime; ticket_key = issuing.key }) []);
  held = λ spir. None;
  numbers = issuing.numbers;
}

-- the ticket of a number was issued in an association at a moment
pub record Issues (key : NamedKey) (lifetime : ℕ) (now : Moment) (sa : Record) (number : ℕ)
    (answer : TicketAnswer) : Type 0 where
  pub seal : Seal
  pub is : answer ≡ Issued lifetime seal
  pub sealed : SealsTicket key number (content_of (configuration_for lifetime) now sa) seal

-- a ticket was sealed under a number of the first ticket key
abbrev pub IsOfFirstKey : TicketAnswer → Type 0
IsOfFirstKey (Issued lifetime seal) = seal.name ≡ first_ticket_counter
IsOfFirstKey Declined = Unit {0}

-- what is told where no number was leased
abbrev pub TellsNoNumber : KeeperFault → Result (Option TicketAnswer) Refusal → Type 0
TellsNoNumber (fault.Full limit) result = result ≡ Ok (Some Declined)
TellsNoNumber fault.Failed result = result ≡ Err refusal.KeeperFault
TellsNoNumber other result = ⊥

-- the number of the ticket that is given
abbrev pub number_told : Result (Option TicketAnswer) Refusal → Option ℕ
number_told (Ok (Some (Issued lifetime seal))) = Some seal.iv
number_told result = None

-- where there is a refusal, the request is refused so
abbrev pub IsRefusedAs : Result (Option TicketAnswer) Refusal → Step → Type 0
IsRefusedAs result step = (why : Refusal) → result ≡ Err why → Says (out.Refused why) step

-- what a member issues tickets with after a turn
abbrev pub issuing_after : List Call → Step → Issuing → Issuing
issuing_after calls step issuing =
    record issuing { numbers = numbers_after calls step issuing.numbers }

-- By these calls it is said of a ticket what a rule says, or the request is refused. No association
-- was granted or covered, and the numbers are those that are left after a turn in which the response
-- has this ticket.
pub record TellsBy (Rule : Step → (Option TicketAnswer → Type 0) → Type 0) (old : Issuing)
    (calls : List Call) (result : Result (Option TicketAnswer) Refusal)
    (new : Issuing) : Type 0 where
  pub follows : (step : Step) → IsRefusedAs result step → Rule step (λ ticket. result ≡ Ok ticket)
  pub no_grant : (spir : ℕ) → grant_in spir calls ≡ None
  pub no_cover : (spir : ℕ) (c : Counter) → covers_in spir c calls ≡ []
  pub left : (step : Step) → ticket_number step.verdict ≡ number_told result
      → new ≡ issuing_after calls step old

-- what is said of a ticket that is due in the answer to a request
abbrev pub TellsDue : Issuing → Moment → Record → List Call
    → Result (Option TicketAnswer) Refusal → Issuing → Type 0
TellsDue old now sa calls result new = TellsBy (λ step done. MatchOption old.key
    (Tells (Some Declined) calls done)
    (λ key. TellsIssued (member_issuing old) now sa key calls step done)) old calls result new

-- and whether it is due or not
abbrev pub TellsOf : Issuing → Moment → Record → Opened → List Call
    → Result (Option TicketAnswer) Refusal → Issuing → Type 0
TellsOf old now sa request calls result new = TellsBy (λ step done.
    TellsTicket (member_issuing old) now sa request calls step done) old calls result new
