-- How a member answers a request, step by step.
use Rattle.std.specs.Prelude.{ℕ, ◌+◌, ◌≡◌, ◌≤◌, Option, true, List, [], Result, Ok, Err}
use Rattle.aes_gcm.specs.NamedKey.{NamedKey}
use Rattle.events.specs.declared.turn.Step.{Step}
use Rattle.ha_base.specs.declared.outside.Moment.{Moment}
use Rattle.horizons.specs.Ready.{Ready}
use Rattle.horizons.specs.declared.stop.Stop.{Stop}
use Rattle.ike_sas.specs.TicketMessages.{is_ticket_due}
use Rattle.ike_sas.specs.declared.ticket_messages.TheConstants.{TICKET_ANSWER_OCTETS}
use Rattle.ike_sas.specs.declared.ticket_messages.TicketAnswer.{TicketAnswer}
use Rattle.keeper_book.specs.Counters.{five_at, with_five}
use Rattle.keeper_book.specs.declared.calls.Call.{Call}
use Rattle.keeper_book.specs.declared.counters.Counter.{Counter}
use Rattle.keeper_book.specs.declared.counters.Counter.TheVariants as counter
use Rattle.sk_payload.specs.declared.open.Opened.{Opened}
use Rattle.ticket_issuing.specs.Issuing.{Issuing, IsRoomFor, issuing_after, member_issuing}
use Rattle.turn_rules.specs.Draws.{counter_name, reach_of}
use Rattle.turn_rules.specs.Held.{Held, held_at}
use Rattle.turn_rules.specs.IkeState.{kept_under, with_taken}
use Rattle.turn_rules.specs.MemberMessages.{HeldAnswers, held_ike}
use Rattle.turn_rules.specs.MemberTickets.{TellsTicket}
use Rattle.turn_rules.specs.Messages.{AnswersRequest}
use Rattle.turn_rules.specs.Tasks as task
use Rattle.cluster_member.specs.Advances.{Advances}
use Rattle.cluster_member.specs.Arriving.{TakesWhereHeld}
use Rattle.cluster_member.specs.Members.{HoldsOn}
use Rattle.cluster_member.specs.declared.rooms.AnswerRooms.{AnswerRooms}

-- there is room for the answer to a request, and for a ticket where one is due and there is a key
pub record AreRoomsFor (key : Option NamedKey) (request : Opened) (rooms : AnswerRooms)
    : Type 0 where
  pub answer : is_ticket_due request ≡ true → TICKET_ANSWER_OCTETS ≤ rooms.answer
  pub ticket : IsRoomFor key request rooms.ticket

-- nothing more was asked, the answer is this one, and this is held
pub record LeavesHeld (calls : List Call) (result value : Result (Unit {0}) Stop)
    (held is : Held) : Type 0 where
  pub no_more : calls ≡ []
  pub answered : result ≡ value
  pub after : held ≡ is

-- what is held once numbers of a counter were covered below this high
abbrev pub covered_below : Counter → ℕ → Held → Held
covered_below c high held = record held { highs = with_five c high held.highs }

-- the calls that make a Message ID ready to be answered, and then the next IV, what is answered, and
-- what is held then
abbrev pub ReadiesAnswer : Held → ℕ → List Call → Result (Unit {0}) Stop → Held → Type 0
ReadiesAnswer old id calls result new = Ready (reach_of old counter.Answer) id calls
    (λ why rest. LeavesHeld rest result (Err why) new old)
    (λ high rest. Ready (reach_of old counter.Iv) (five_at old.nexts counter.Iv) rest
    (λ why more. LeavesHeld more result (Err why) new (covered_below counter.Answer high old))
    (λ above more. LeavesHeld more result (Ok tt) new
    (covered_below counter.Iv above (covered_below counter.Answer high old))))

-- what is held once a request of this Message ID was answered under the next IV
abbrev pub answered_with : ℕ → Step → Held → Held
answered_with id step held = record held {
  nexts = with_five counter.Iv (five_at held.nexts counter.Iv + 1) held.nexts;
  answered = with_taken (kept_under id step.gives) held.answered;
}

-- a new request is answered under the next IV, with this said of a ticket
abbrev pub AnswersHeld : Held → Opened → Step → Option TicketAnswer → Type 0
AnswersHeld held request step ticket = AnswersRequest (counter_name held.sa counter.Answer)
    (held_ike held) (five_at held.nexts counter.Iv) request ticket step

-- the calls behind those that make the numbers ready: it is said of a ticket what the rule says, or
-- the request is refused
pub record AnswersReady (issuing : Issuing) (now : Moment) (old : Held) (request : Opened)
    (calls : List Call) (step : Step) (left : Issuing) (new : Held) : Type 0 where
  pub tells : TellsTicket (member_issuing issuing) now old.sa request calls step
      (AnswersHeld old request step)
  pub advances : Advances old task.Receive calls step new
  pub issues : left ≡ issuing_after calls step issuing

-- a request is answered by the rule, and this is left of what tickets are issued with, and held
pub record AnswersWith (issuing : Issuing) (now : Moment) (old : Held) (request : Opened)
    (calls : List Call) (step : Step) (left : Issuing) (new : Held) : Type 0 where
  pub answers : HeldAnswers (member_issuing issuing) now old request calls step
  pub advances : Advances old task.Receive calls step new
  pub issues : left ≡ issuing_after calls step issuing

-- the same of what is held of the association of the request, by all that a member holds
pub record AnswersWhereHeld (issuing : Issuing) (now : Moment) (old : List Held) (request : Opened)
    (calls : List Call) (step : Step) (left : Issuing) (new : List Held) : Type 0 where
  pub answers : TakesWhereHeld (held_at old) request
      (λ held. HeldAnswers (member_issuing issuing) now held request calls step)
  pub holds : HoldsOn task.Receive calls step old new
  pub issues : left ≡ issuing_after calls step issuing
