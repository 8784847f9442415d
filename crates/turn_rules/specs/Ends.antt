-- Whose turn it is. A trace has its newest turn first: it is the past of the turn that comes next.
use Rattle.std.specs.Prelude.{ℕ, ◌==◌, Bool, true, false, Option, Some, None, List, if◌then◌else◌}
use Rattle.std.specs.List.{filter}
use Rattle.events.specs.declared.event.Event.{Event}
use Rattle.events.specs.declared.event.Event.TheVariants as event
use Rattle.events.specs.declared.event.Party.{Party}
use Rattle.events.specs.declared.event.Party.TheVariants as parties
use Rattle.events.specs.declared.turn.Turn.{Turn}
use Rattle.events.specs.declared.verdict.Refusal.{Refusal}
use Rattle.events.specs.declared.verdict.Refusal.TheVariants as refusal
use Rattle.events.specs.declared.verdict.Verdict.{Verdict}
use Rattle.events.specs.declared.verdict.Verdict.TheVariants as out
use Rattle.turn_rules.specs.Datagrams.{Delivery, delivery_of}

-- an end of a run
pub data Performer : Type 0 where
  Peer : Performer
  Member : (number : ℕ) → Performer

abbrev pub is_performer : Performer → Performer → Bool
is_performer Peer Peer = true
is_performer Peer (Member b) = false
is_performer (Member a) Peer = false
is_performer (Member a) (Member b) = a == b

-- the refusals that the run itself makes, before any end sees the event
abbrev pub is_of_run : Refusal → Bool
is_of_run refusal.NoMember = true
is_of_run refusal.Down = true
is_of_run refusal.NoDatagram = true
is_of_run refusal.NoOctet = true
is_of_run refusal.DatagramsFull = true
is_of_run refusal.Late = true
is_of_run (refusal.NoRoom joined) = true
is_of_run refusal.SpiRange = true
is_of_run why = false

abbrev pub is_refused_by_run : Verdict → Bool
is_refused_by_run (out.Refused why) = is_of_run why
is_refused_by_run verdict = false

abbrev pub end_of_party : Party → Performer
end_of_party parties.Peer = Peer
end_of_party (parties.Member number) = Member number

-- the end that a delivery comes to
abbrev pub receiver_of : Option Delivery → Option Performer
receiver_of None = None
receiver_of (Some delivery) = Some (end_of_party delivery.to)

-- who performs an event that the run does not refuse
abbrev pub performer_of : Event → Verdict → Option Performer
performer_of (event.Cluster identity lifetime window ticket_key) verdict = None
performer_of (event.Import sa) verdict = Some Peer
performer_of (event.Join fresh) (out.Member number) = Some (Member number)
performer_of (event.Join fresh) verdict = None
performer_of (event.Own member spir) verdict = Some (Member member)
performer_of (event.Draw member spir) verdict = Some (Member member)
performer_of (event.Crash member) verdict = Some (Member member)
performer_of (event.Send from spir payload) verdict = Some (end_of_party from)
performer_of (event.Ask from spir request) verdict = Some (end_of_party from)
performer_of (event.Again from spir id) verdict = Some (end_of_party from)
performer_of (event.Sync member spir) verdict = Some (Member member)
performer_of (event.Ticket spir) verdict = Some Peer
performer_of (event.Forget spir) verdict = Some Peer
performer_of event verdict = receiver_of (delivery_of event)

-- who performs an event, where it came out so
abbrev pub performer_at : Event → Verdict → Option Performer
performer_at event verdict = if is_refused_by_run verdict then None else performer_of event verdict

abbrev pub performer : Turn → Option Performer
performer turn = performer_at turn.event turn.step.verdict

abbrev pub is_end : Performer → Option Performer → Bool
is_end end None = false
is_end end (Some other) = is_performer end other

-- the turn is one of this end's own
abbrev pub is_by : Performer → Turn → Bool
is_by end turn = is_end end (performer turn)

-- an end's own turns
abbrev pub own : Performer → List Turn → List Turn
own end past = filter (is_by end) past
