-- What each event does, by what the ends hold.
use Rattle.std.specs.Prelude.{ℕ, ◌+◌, ◌≡◌, ◌||◌, ◌&&◌, Bool, true, false, not, nat_le, nat_lt, is_some, MatchOption, Option, Some, None, Result, Ok, Err, List, [], length}
use Rattle.events.specs.declared.event.Event.{Event}
use Rattle.events.specs.declared.event.Event.TheVariants as event
use Rattle.events.specs.declared.event.Party.{Party}
use Rattle.events.specs.declared.event.Party.TheVariants as parties
use Rattle.events.specs.declared.turn.Step.{Step}
use Rattle.events.specs.declared.turn.Turn.{Turn}
use Rattle.events.specs.declared.verdict.Refusal.{Refusal}
use Rattle.events.specs.declared.verdict.Refusal.TheVariants as refusal
use Rattle.events.specs.declared.verdict.Verdict.{Verdict}
use Rattle.events.specs.declared.verdict.Verdict.TheVariants as out
use Rattle.ha_base.specs.declared.outside.Moment.{Moment}
use Rattle.ha_base.specs.declared.limits.TheConstants.{LEAST_ESP_SPI, LEAST_SPI, MAX_DATAGRAMS}
use Rattle.ike_sas.specs.Answers.{request_payloads}
use Rattle.ike_sas.specs.TicketMessages.{ticket_request_payloads}
use Rattle.keeper_book.specs.declared.calls.Call.{Call}
use Rattle.keeper_book.specs.declared.records.Record.{Record}
use Rattle.turn_rules.specs.Configurations.{fresh_octets}
use Rattle.turn_rules.specs.Datagrams.{Delivery, PlainDatagram, delivery_of}
use Rattle.turn_rules.specs.Deliveries.{MemberGets, PeerGets}
use Rattle.turn_rules.specs.Draws.{Draws, EntersRecord, TakesOver}
use Rattle.turn_rules.specs.Held.{Held}
use Rattle.turn_rules.specs.MemberMessages.{AsksOf, ResendsOf, SyncsOf}
use Rattle.turn_rules.specs.MemberPackets.{SendsData}
use Rattle.turn_rules.specs.PeerMessages.{PeerAsks, PeerResends}
use Rattle.turn_rules.specs.States.{RunState, state_by}
use Rattle.turn_rules.specs.Slots.{PeerForgets, PeerSends, admits}
use Rattle.turn_rules.specs.Steps.{IsQuiet, Says}

-- the most members of a run
abbrev pub MAX_MEMBERS : ℕ
MAX_MEMBERS = 64

-- the SPIs that a run may import: the greater ones are for imports, and the others for what the
-- cluster draws itself
abbrev pub is_importable : Record → Bool
is_importable sa =
    nat_le LEAST_SPI sa.spii && nat_le LEAST_SPI sa.spir
    && nat_le LEAST_ESP_SPI sa.spi_in && nat_le LEAST_ESP_SPI sa.spi_out
    && nat_lt 0 sa.starts.esp_out && nat_lt 0 sa.starts.esp_in && nat_lt 0 sa.starts.iv

-- no call was made, and the event came out so; nothing was executed, sealed or sent
pub record Yields (verdict : Verdict) (calls : List Call) (step : Step) : Type 0 where
  pub no_calls : calls ≡ []
  pub says : Says verdict step

abbrev pub Refuses : Refusal → List Call → Step → Type 0
Refuses why calls step = Yields (out.Refused why) calls step

-- the event is refused so where the test holds
abbrev pub Refusing : Bool → Refusal → List Call → Step → Type 0 → Type 0
Refusing true why calls step otherwise = Refuses why calls step
Refusing false why calls step otherwise = otherwise

-- nothing was executed, sealed or sent, and this holds of the calls and the verdict
pub record Quietly (rule : List Call → Verdict → Type 0) (calls : List Call)
    (step : Step) : Type 0 where
  pub follows : rule calls step.verdict
  pub quiet : IsQuiet step

-- a member of this number has joined
abbrev pub has_joined : ℕ → RunState → Bool
has_joined member state = nat_lt 0 member && nat_le member state.joined

-- an event that may give a datagram, or brings one that was given
abbrev pub is_of_datagrams : Event → Bool
is_of_datagrams (event.Send from spir payload) = true
is_of_datagrams (event.Ask from spir request) = true
is_of_datagrams (event.Again from spir id) = true
is_of_datagrams (event.Sync member spir) = true
is_of_datagrams (event.Ticket spir) = true
is_of_datagrams event = is_some (delivery_of event)

abbrev pub member_of : Party → Option ℕ
member_of parties.Peer = None
member_of (parties.Member member) = Some member

abbrev pub member_reached : Option Delivery → Option ℕ
member_reached None = None
member_reached (Some delivery) = member_of delivery.to

-- the member that an event names
abbrev pub named_in : Event → Option ℕ
named_in (event.Own member spir) = Some member
named_in (event.Draw member spir) = Some member
named_in (event.Crash member) = Some member
named_in (event.Sync member spir) = Some member
named_in (event.Send from spir payload) = member_of from
named_in (event.Ask from spir request) = member_of from
named_in (event.Again from spir id) = member_of from
named_in event = member_reached (delivery_of event)

-- this refusal where the test holds, and else another one or none
abbrev pub refused_where : Bool → Refusal → Option Refusal → Option Refusal
refused_where true why otherwise = Some why
refused_where false why otherwise = otherwise

-- a member that never joined, or ended, does nothing
abbrev pub refused_absent : RunState → Option ℕ → Option Refusal → Option Refusal
refused_absent state None otherwise = otherwise
refused_absent state (Some member) otherwise =
    refused_where (not (has_joined member state)) refusal.NoMember
    (refused_where (state.ended member) refusal.Down otherwise)

-- nothing arrives
abbrev pub refused_arrival : Result PlainDatagram Refusal → Option Refusal
refused_arrival (Err why) = Some why
refused_arrival (Ok datagram) = None

abbrev pub refused_delivery : RunState → Option Delivery → Option Refusal
refused_delivery state None = None
refused_delivery state (Some delivery) = refused_arrival (delivery.made state.datagrams)

-- what some events ask besides: that nothing was played before, that the SPIs may be imported, that
-- there is room for one more member, and that something arrives
abbrev pub refused_besides : RunState → Event → Option Refusal
refused_besides state (event.Cluster identity lifetime window ticket_key) =
    refused_where state.started refusal.Late None
refused_besides state (event.Import sa) = refused_where
    (not (is_importable sa)) refusal.SpiRange None
refused_besides state (event.Join fresh) =
    refused_where (nat_le MAX_MEMBERS state.joined || nat_le state.boxes state.joined)
    (refusal.NoRoom state.joined) None
refused_besides state event = refused_delivery state (delivery_of event)

-- why the run itself refuses an event, before any end sees it
abbrev pub run_refusal : RunState → Event → Option Refusal
run_refusal state event =
    refused_where (is_of_datagrams event && nat_le MAX_DATAGRAMS
    (length state.datagrams)) refusal.DatagramsFull
    (refused_absent state (named_in event) (refused_besides state event))

-- the peer has no association that stands in the way, or the import is refused
abbrev pub Imports : RunState → Record → List Call → Step → Type 0
Imports state sa calls step =
    Refusing (not (admits state.peer.slots sa)) refusal.SpiInUse calls step
    (Quietly (EntersRecord sa) calls step)

-- a member draws a number of what it holds
abbrev pub DrawsOf : Option Held → List Call → Step → Type 0
DrawsOf None calls step = Refuses refusal.NotOwner calls step
DrawsOf (Some held) calls step = Quietly (Draws held) calls step

-- a member sends a payload by what it holds
abbrev pub SendsOf : Option Held → List ℕ → List Call → Step → Type 0
SendsOf None payload calls step = Refuses refusal.NotOwner calls step
SendsOf (Some held) payload calls step = SendsData held payload calls step

-- an end receives what arrives at a moment
abbrev pub Receives : RunState → Moment → Party → Result PlainDatagram Refusal → List Call → Step
    → Type 0
Receives state now to (Err why) calls step = ⊥
Receives state now parties.Peer (Ok datagram) calls step =
    PeerGets datagram.medium state.peer.slots datagram.octets calls step
Receives state now (parties.Member member) (Ok datagram) calls step =
    MemberGets datagram.medium (state.members member) now datagram.octets calls step

abbrev pub Delivers : RunState → Moment → Option Delivery → List Call → Step → Type 0
Delivers state now None calls step = ⊥
Delivers state now (Some delivery) calls step = Receives state now delivery.to
    (delivery.made state.datagrams) calls step

-- the calls of an event that the run does not refuse, and what the end does at this moment that
-- performs it, by what the ends hold
abbrev pub Performs : RunState → Moment → Event → List Call → Step → Type 0
Performs state now (event.Cluster identity lifetime window ticket_key) calls step =
    Yields out.Configured calls step
Performs state now (event.Import sa) calls step = Imports state sa calls step
Performs state now (event.Join fresh) calls step = Yields (out.Member (state.joined + 1)) calls step
Performs state now (event.Own member spir) calls step = Quietly (TakesOver spir member) calls step
Performs state now (event.Draw member spir) calls step = DrawsOf ((state.members member).held spir) calls step
Performs state now (event.Crash member) calls step = Yields out.Down calls step
Performs state now (event.Send parties.Peer spir payload) calls step =
    (calls ≡ []) × PeerSends spir state.peer.slots payload.octets step
Performs state now (event.Send (parties.Member member) spir payload) calls step =
    SendsOf ((state.members member).held spir) payload.octets calls step
Performs state now (event.Ask parties.Peer spir request) calls step =
    (calls ≡ []) × PeerAsks spir state.peer.slots (request_payloads request.octets) step
Performs state now (event.Ask (parties.Member member) spir request) calls step =
    AsksOf ((state.members member).held spir) (request_payloads request.octets) calls step
Performs state now (event.Again parties.Peer spir id) calls step =
    (calls ≡ []) × PeerResends spir state.peer.slots id step
Performs state now (event.Again (parties.Member member) spir id) calls step =
    ResendsOf ((state.members member).held spir) id calls step
Performs state now (event.Sync member spir) calls step =
    SyncsOf (fresh_octets (state.members member).given) ((state.members member).held spir) calls step
Performs state now (event.Ticket spir) calls step =
    (calls ≡ []) × PeerAsks spir state.peer.slots ticket_request_payloads step
Performs state now (event.Forget spir) calls step =
    (calls ≡ []) × PeerForgets spir state.peer.slots step
Performs state now event calls step = Delivers state now (delivery_of event) calls step

-- the calls of an event and what is done: the run refuses it, or its end performs it
abbrev pub Does : RunState → Moment → Event → List Call → Step → Type 0
Does state now event calls step = MatchOption (run_refusal state event)
    (Performs state now event calls step)
    (λ why. Refuses why calls step)

-- so it is of a turn, by what the turns before it make of what the ends hold
abbrev pub FitsTurns : ℕ → List Turn → Turn → Type 0
FitsTurns boxes past turn =
    Does (state_by boxes past) turn.moment turn.event turn.calls turn.step
