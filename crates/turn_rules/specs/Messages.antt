-- What an end does with IKE messages, by what it holds of their association (RFC 7296, sections
-- 1.4, 2.1 to 2.3 and 2.21).
use Rattle.std.specs.Prelude.{ℕ, ◌+◌, ◌≡◌, ◌≤◌, ◌⊎◌, MatchOption, unwrap_or, Option, Some, None, Result, Ok, Err, List, [], ◌∷◌, ◌++◌, length}
use Rattle.std.specs.Option.{option_map}
use Rattle.events.specs.declared.turn.Datagram.{Datagram}
use Rattle.events.specs.declared.turn.Medium.TheVariants.{Ike}
use Rattle.events.specs.declared.turn.Served.{Served}
use Rattle.events.specs.declared.turn.Step.{Step}
use Rattle.events.specs.declared.ike_outcomes.IkeDrop.{IkeDrop}
use Rattle.events.specs.declared.ike_outcomes.IkeDrop.TheVariants as drop
use Rattle.events.specs.declared.ike_outcomes.Kept.{Kept}
use Rattle.events.specs.declared.ike_outcomes.Mark.{Mark}
use Rattle.events.specs.declared.ike_outcomes.Mark.TheVariants as mark
use Rattle.events.specs.declared.seals.Seal.{Seal}
use Rattle.events.specs.declared.verdict.Refusal.TheVariants as refusal
use Rattle.events.specs.declared.verdict.Verdict.{Verdict}
use Rattle.events.specs.declared.verdict.Verdict.TheVariants as out
use Rattle.ha_base.specs.Octets.{WithRoom}
use Rattle.ha_base.specs.declared.counter_names.CounterName.{CounterName}
use Rattle.ha_base.specs.declared.counter_names.End.{End}
use Rattle.ike_values.specs.declared.fault.Bad.{Bad}
use Rattle.ike_sas.specs.Answers.{answer_payloads, data_of, error_of, notify_type_of}
use Rattle.ike_sas.specs.Arrivals.{IsArrival}
use Rattle.ike_sas.specs.Errors.{first_error}
use Rattle.ike_sas.specs.Held.{IkeHeld, request_header, response_header}
use Rattle.ike_sas.specs.Sending.{SendsIke}
use Rattle.ike_sas.specs.TicketMessages.{ticket_answer_payload, ticket_seals}
use Rattle.ike_sas.specs.declared.answers.RequestError.{RequestError}
use Rattle.ike_sas.specs.declared.answers.TheConstants.{LONGEST_REPLY}
use Rattle.ike_sas.specs.declared.arrival.Arrival.{Arrival}
use Rattle.ike_sas.specs.declared.arrival.Arrival.TheVariants as arrival
use Rattle.ike_sas.specs.declared.draft.SentMessage.{SentMessage}
use Rattle.ike_sas.specs.declared.exchanges.TheConstants.{IKE_SESSION_RESUME}
use Rattle.ike_sas.specs.declared.ticket_messages.TicketAnswer.{TicketAnswer}
use Rattle.ike_sas.specs.declared.ticket_messages.TicketAnswer.TheVariants.{Declined, Issued}
use Rattle.ike_values.specs.Notifications.{first_notify}
use Rattle.ike_values.specs.Values.{PayloadValue}
use Rattle.ike_values.specs.declared.header.Header.{Header}
use Rattle.ike_values.specs.declared.notify_types.TheConstants.{REPLY_DATA}
use Rattle.keeper_book.specs.declared.calls.Call.{Call}
use Rattle.ike_window.specs.Asking.{FitsBeside, IsLeast}
use Rattle.ike_window.specs.Kept.{kept_octets, message_ids_of}
use Rattle.ike_window.specs.declared.TheConstants.{WINDOW}
use Rattle.sk_payload.specs.declared.open.Opened.{Opened}
use Rattle.turn_rules.specs.Steps.{Says}

-- ---- what is sent

-- a message was sealed under the next IV of an association, after these seals, and given
pub record SendsAfter (before : List Seal) (held : IkeHeld) (iv : ℕ) (header : Header)
    (payloads : List PayloadValue) (step : Step) : Type 0 where
  pub sent : SentMessage
  pub sends : SendsIke held.keys.sending iv header payloads sent
  pub seals : step.seals ≡ before ++ sent.seal ∷ []
  pub gives : step.gives ≡ Some sent.datagram

-- nothing else was sealed
abbrev pub SendsMessage : IkeHeld → ℕ → Header → List PayloadValue → Step → Type 0
SendsMessage held iv header payloads step = SendsAfter [] held iv header payloads step

-- octets that were kept are given once more, and nothing is sealed
pub record GivesAgain (verdict : Verdict) (octets : List ℕ) (step : Step) : Type 0 where
  pub datagram : Datagram
  pub said : step.verdict ≡ verdict
  pub served : step.served ≡ None
  pub seals : step.seals ≡ []
  pub gives : step.gives ≡ Some datagram
  pub medium : datagram.medium ≡ Ike
  pub octets_are : datagram.octets.octets ≡ octets

-- ---- requests of an end's own

-- a request with these inner payloads was sent, under a Message ID and an IV
pub record SendsRequest (held : IkeHeld) (id iv : ℕ) (payloads : List PayloadValue)
    (step : Step) : Type 0 where
  pub said : step.verdict ≡ out.Asked id
  pub served : step.served ≡ None
  pub sends : SendsMessage held iv (request_header held.keys id) payloads step

-- The window of requests has room for one of this Message ID, or it is refused for the least one
-- that is outstanding.
abbrev pub Windowed : IkeHeld → ℕ → (Refused : ℕ → Type 0) → Type 0 → Type 0
Windowed held id Refused fits = (FitsBeside id held.asked × fits)
    ⊎ ((least : ℕ) × IsLeast (message_ids_of held.asked) least × (least + WINDOW ≤ id)
    × Refused least)

-- an outstanding request is sent again with the same octets
abbrev pub Resends : ℕ → IkeHeld → Step → Type 0
Resends id held step = MatchOption (kept_octets id held.asked)
    (Says (out.Refused (refusal.NotOutstanding id)) step)
    (λ octets. GivesAgain (out.Resent id) octets step)

-- ---- new requests

-- what the response says of a ticket, as the report of the request tells it
abbrev pub mark_of : Option TicketAnswer → Mark
mark_of None = mark.Plain
mark_of (Some (Issued lifetime seal)) = mark.Ticket seal.iv
mark_of (Some Declined) = mark.Nack

-- that stands behind the reply of the service
abbrev pub with_ticket : List PayloadValue → Option TicketAnswer → List PayloadValue
with_ticket told None = told
with_ticket told (Some answer) = told ++ ticket_answer_payload answer ∷ []

-- and was sealed before the response
abbrev pub seals_of : Option TicketAnswer → List Seal
seals_of None = []
seals_of (Some answer) = ticket_seals answer

-- the response to a request, with the reply of the service where it was executed, and what is said
-- of a ticket
abbrev pub Responds : IkeHeld → ℕ → Opened → List ℕ → Option TicketAnswer → Step → Type 0
Responds held iv request reply ticket step = SendsAfter (seals_of ticket) held iv
    (response_header held.keys request.header)
    (with_ticket (answer_payloads request reply) ticket) step

-- it was executed, and has the service's reply as its response, and what is said of a ticket
pub record ExecutesRequest (name : CounterName) (held : IkeHeld) (iv : ℕ) (request : Opened)
    (ticket : Option TicketAnswer) (step : Step) : Type 0 where
  pub executed : Served
  pub said : step.verdict ≡ out.Executed name request.header.id (mark_of ticket)
  pub served : step.served ≡ Some executed
  pub asked : executed.request.octets ≡ data_of request.inner
  pub short : length executed.reply.octets ≤ LONGEST_REPLY
  pub responds : Responds held iv request executed.reply.octets ticket step

-- it was answered with an error, and not executed
pub record RefusesRequest (name : CounterName) (held : IkeHeld) (iv : ℕ) (request : Opened)
    (error : RequestError) (step : Step) : Type 0 where
  pub said : step.verdict ≡ out.Refusing name request.header.id (notify_type_of error)
  pub served : step.served ≡ None
  pub responds : Responds held iv request [] None step

-- a new request is answered under an IV, and where it is executed this is said of a ticket; `name`
-- is the counter of the requests that the end answers
abbrev pub AnswersRequest : CounterName → IkeHeld → ℕ → Opened → Option TicketAnswer → Step
    → Type 0
AnswersRequest name held iv request ticket step = MatchOption (error_of request)
    (ExecutesRequest name held iv request ticket step)
    (λ error. RefusesRequest name held iv request error step)

-- ---- responses

-- what is said of a response: the data of the reply, or none
abbrev pub reply_in : List PayloadValue → List ℕ
reply_in payloads = unwrap_or (first_notify REPLY_DATA payloads) []

-- the response to a request came, of which this is kept besides the reply; `name` is the counter of
-- the requests that the end asks
pub record TakesReply (kept : Kept) (name : CounterName) (id : ℕ) (payloads : List PayloadValue)
    (step : Step) : Type 0 where
  pub reply : WithRoom
  pub octets : reply.octets ≡ reply_in payloads
  pub says : Says (out.Reply name id reply kept (first_error payloads)) step

-- and that is what the end keeps
abbrev pub TakesInner : (List PayloadValue → Kept → Type 0) → CounterName → ℕ
    → Result (List PayloadValue) Bad → Step → Type 0
TakesInner Keeps name id (Ok payloads) step =
    (kept : Kept) × Keeps payloads kept × TakesReply kept name id payloads step
TakesInner Keeps name id (Err bad) step = ⊥

-- ---- what comes

-- What an end is to IKE messages: what it holds under an initiator's and a responder's SPI, of that
-- its part on IKE messages, the counter of the requests that it asks in it, what it keeps of the
-- response to one, and what it does with a new request, with a request to synchronise and with the
-- response to one.
pub record Listener (X : Type 0) : Type 1 where
  pub end : End
  pub held_under : ℕ → ℕ → Option X
  pub ike : X → IkeHeld
  pub asks : X → CounterName
  pub Keeps : List PayloadValue → Kept → Type 0
  pub Answers : X → Opened → List Call → Step → Type 0
  pub Synchronises : X → Opened → List Call → Step → Type 0
  pub TakesSync : X → Opened → List Call → Step → Type 0

-- what is held of the association of a message that was opened
abbrev pub held_for : {X : Type 0} → Listener X → Opened → Option X
held_for listener opened = listener.held_under opened.header.spii opened.header.spir

-- it is taken so by what is held of its association
abbrev pub TakesThere : {X : Type 0} → Listener X → Opened → (X → Type 0) → Type 0
TakesThere listener opened takes = MatchOption (held_for listener opened) ⊥ takes

abbrev pub DropsMessage : IkeDrop → List Call → Step → Type 0
DropsMessage why calls step = (calls ≡ []) × Says (out.DroppedIke why) step

-- What is done with what came. Resumptions are not taken yet: their exchange is not known.
abbrev pub TakesArrival : {X : Type 0} → Listener X → Arrival → List Call → Step → Type 0
TakesArrival listener (arrival.Dropped why) calls step = DropsMessage why calls step
TakesArrival listener (arrival.Resumption message) calls step =
    DropsMessage (drop.Exchange IKE_SESSION_RESUME) calls step
TakesArrival listener (arrival.Repeat id datagram) calls step =
    (calls ≡ []) × GivesAgain (out.Repeated id) datagram.octets.octets step
TakesArrival listener (arrival.New request) calls step =
    TakesThere listener request (λ held. listener.Answers held request calls step)
TakesArrival listener (arrival.Response response) calls step = (calls ≡ [])
    × TakesThere listener response
    (λ held. TakesInner listener.Keeps (listener.asks held) response.header.id response.inner
    step)
TakesArrival listener (arrival.Synchronisation request) calls step =
    TakesThere listener request (λ held. listener.Synchronises held request calls step)
TakesArrival listener (arrival.SyncResponse response) calls step =
    TakesThere listener response (λ held. listener.TakesSync held response calls step)

-- what an end does with the octets of an IKE message
pub record TakesMessage {X : Type 0} (listener : Listener X) (octets : List ℕ) (calls : List Call)
    (step : Step) : Type 0 where
  pub comes : Arrival
  pub is : IsArrival
      (λ spii spir. option_map listener.ike (listener.held_under spii spir)) listener.end octets
      comes
  pub takes : TakesArrival listener comes calls step
