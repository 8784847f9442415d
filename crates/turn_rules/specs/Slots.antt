-- What the peer holds of its associations, and what it does with ESP packets.
use Rattle.std.specs.List.{filter_map, list_any}
use Rattle.std.specs.Prelude.{ℕ, ◌+◌, ◌≡◌, ◌<◌, ◌≤◌, ◌==◌, ◌&&◌, ◌||◌, max, zero, suc, Bool, true, false, not, MatchOption, length, Option, Some, None, List, [], ◌∷◌, ◌++◌, map, option_to_list, if◌then◌else◌, Result, Ok, Err}
use Rattle.std.specs.Option.{option_map}
use Rattle.esp_packets.specs.Packet.{spi_of}
use Rattle.events.specs.declared.event.Event.{Event}
use Rattle.events.specs.declared.turn.Step.{Step}
use Rattle.events.specs.declared.turn.Turn.{Turn}
use Rattle.events.specs.declared.verdict.EspVerdict.{EspVerdict}
use Rattle.events.specs.declared.verdict.EspVerdict.TheVariants as esp
use Rattle.events.specs.declared.verdict.Refusal.TheVariants as refusal
use Rattle.events.specs.declared.verdict.Verdict.TheVariants as out
use Rattle.ha_base.specs.declared.counter_names.CounterName.{CounterName}
use Rattle.ha_base.specs.declared.counter_names.End.TheVariants as end
use Rattle.ha_base.specs.declared.esp_outcomes.EspDrop.{EspDrop}
use Rattle.ha_base.specs.declared.esp_outcomes.EspDrop.TheVariants as drop
use Rattle.ha_base.specs.declared.esp_outcomes.EspOpened.{EspOpened}
use Rattle.ha_base.specs.declared.outside.Moment.{Moment}
use Rattle.ike_window.specs.Kept.{KeptMessage}
use Rattle.ike_window.specs.Stored.{no_responses, window_of_responses}
use Rattle.ike_window.specs.Windows.{ResponseWindow}
use Rattle.keeper_book.specs.declared.counters.Counter.{Counter}
use Rattle.keeper_book.specs.CounterEnds.{end_of}
use Rattle.keeper_book.specs.declared.counters.Counter.TheVariants as counter
use Rattle.keeper_book.specs.declared.records.Record.{Record}
use Rattle.replay_set.specs.Window.{Window, window_of}
use Rattle.turn_rules.specs.Draws.{child_of, counter_kind}
use Rattle.turn_rules.specs.Held.{after_number, after_received, first_some, floor_of, found, greatest, received_in, received_of, used_in}
use Rattle.turn_rules.specs.IkeState.{answered_after, heard_in, outstanding_after, outstanding_of, replied_in, request_in, response_in, turn_agreed, turn_response}
use Rattle.turn_rules.specs.Packets.{Drops, Inbound, OpensEsp, Outbound, SendsEsp}
use Rattle.turn_rules.specs.PeerTickets.{KeptTicket, is_forgotten, is_live_after, live_after, ticket_in, ticket_of}
use Rattle.turn_rules.specs.Peers.{associations_by, entered_at_task, entered_in}
use Rattle.turn_rules.specs.Steps.{Says}
use Rattle.turn_rules.specs.Synchronised.{after_jump, after_rise, agreed_in, ends_in, jumped_in}
use Rattle.turn_rules.specs.Tasks.{Task, peer_task}

-- What the peer holds of an association: the record, whether the association is live, which it is
-- until the peer closes it, the ESP number that it sends next, and which numbers it received; of IKE
-- messages the next IV, the next Message ID of an own request, the requests that are outstanding,
-- what was answered, and the greatest Message ID of the cluster's that it knows of, if there is one;
-- and the last ticket that came, if one did.
pub record Slot : Type 0 where
  pub sa : Record
  pub live : Bool
  pub next : ℕ
  pub window : Window
  pub iv : ℕ
  pub ask : ℕ
  pub asked : List KeptMessage
  pub answered : ResponseWindow
  pub highest : Option ℕ
  pub ticket : Option KeptTicket

-- the peer's counter of an association
abbrev pub peer_counter : Record → Counter → CounterName
peer_counter sa c = record {
  origin = sa.origin;
  kind = counter_kind c;
  child = child_of c;
  end = end.Peer;
}

-- the Message ID before the first, if there is one
abbrev pub one_below : ℕ → Option ℕ
one_below zero = None
one_below (suc n) = Some n

-- Where the peer begins: its numbers are the cluster's, each end sending where the other one
-- receives.
abbrev pub entered_slot : ℕ → Record → Slot
entered_slot size sa = record {
  sa = sa;
  live = true;
  next = sa.starts.esp_in;
  window = window_of size sa.starts.esp_out [];
  iv = sa.starts.iv;
  ask = sa.starts.answer;
  asked = [];
  answered = no_responses sa.starts.ask;
  highest = one_below sa.starts.ask;
  ticket = None;
}

abbrev pub slot_outbound : Slot → Outbound
slot_outbound slot = record {
  key = record { name = peer_counter slot.sa counter.EspOut; octets = slot.sa.child.to_cluster };
  spi = slot.sa.spi_in;
}

abbrev pub slot_inbound : Slot → Inbound
slot_inbound slot = record {
  counter = peer_counter slot.sa counter.EspIn;
  key = slot.sa.child.to_peer;
  spi = slot.sa.spi_out;
  window = slot.window;
}

abbrev pub records : List Slot → List Record
records slots = map (λ slot. slot.sa) slots

-- the ESP number under which the peer sent in the association
abbrev pub sent : ℕ → Event → Step → Option ℕ
sent spir event step = used_in end.Peer spir counter.EspOut (peer_task event) step

abbrev pub sent_of : ℕ → Turn → Option ℕ
sent_of spir turn = sent spir turn.event turn.step

-- the number of a counter that the peer used in the association
abbrev pub spent_of : ℕ → Counter → Turn → Option ℕ
spent_of spir c turn = used_in end.Peer spir c (peer_task turn.event) turn.step

-- the number to which the peer's counter jumped
abbrev pub left_of : ℕ → Counter → Turn → Option ℕ
left_of spir c turn = jumped_in spir c (peer_task turn.event) turn.step.verdict

-- the Message ID of the cluster's that the peer came to know
abbrev pub heard_of : ℕ → Turn → Option ℕ
heard_of spir turn = heard_in spir (peer_task turn.event) turn.step.verdict

-- the greater of a Message ID and the greatest so far, if there was one
abbrev pub higher_of : ℕ → Option ℕ → Option ℕ
higher_of id None = Some id
higher_of id (Some highest) = Some (max id highest)

abbrev pub after_heard : Option ℕ → Option ℕ → Option ℕ
after_heard None highest = highest
after_heard (Some id) highest = higher_of id highest

abbrev pub highest_of : Option ℕ → List ℕ → Option ℕ
highest_of before [] = before
highest_of before (id ∷ ids) = higher_of id (highest_of before ids)

-- The ESP number that the peer sends next, where it began with this one: each that it sent leaves
-- one more, and each synchronisation that it accepted adds its delta.
abbrev pub next_sent : ℕ → ℕ → List Turn → ℕ
next_sent spir start [] = start
next_sent spir start (turn ∷ past) = after_rise (turn_agreed peer_task spir turn)
    (after_number (sent_of spir turn) (next_sent spir start past))

abbrev pub is_entered : ℕ → Option Record → Bool
is_entered spir None = false
is_entered spir (Some sa) = sa.spir == spir

-- the turns since the association came to the peer
abbrev pub since_entered : ℕ → List Turn → List Turn
since_entered spir [] = []
since_entered spir (turn ∷ past) = if is_entered spir (entered_in turn) then []
    else turn ∷ since_entered spir past

-- What the peer's own turns say that it holds of an association: its next IV is one more than each
-- under which it sealed since the association came, and no less than the start, and the ESP numbers
-- are noted that were accepted since then; so it is of requests, which jump as both ends agreed.
abbrev pub slot_by : ℕ → List Turn → Record → Slot
slot_by size past sa = let mine = since_entered sa.spir past in record {
  sa = sa;
  live = is_live_after sa.spir mine;
  next = next_sent sa.spir sa.starts.esp_in mine;
  window = window_of size sa.starts.esp_out (filter_map (received_of sa.spir) mine);
  iv = greatest sa.starts.iv (map (λ n. n + 1) (filter_map (spent_of sa.spir counter.Iv) mine));
  ask = greatest (greatest sa.starts.answer
      (map (λ n. n + 1) (filter_map (spent_of sa.spir counter.Ask) mine)))
      (filter_map (left_of sa.spir counter.Ask) mine);
  asked = outstanding_of peer_task sa.spir mine;
  answered = window_of_responses
      (floor_of sa.starts.ask (filter_map (turn_agreed peer_task sa.spir) mine))
      (filter_map (turn_response peer_task sa.spir) mine);
  highest = highest_of (one_below sa.starts.ask) (filter_map (heard_of sa.spir) mine);
  ticket = found (ticket_of sa.spir) mine;
}

-- the peer's associations, in the order in which they came, with receive windows of this size
abbrev pub slots_by : ℕ → List Turn → List Slot
slots_by size past = map (slot_by size past) (associations_by past)

-- a live association of a responder's SPI, and one that receives at an SPI
abbrev pub has_spir : ℕ → Slot → Bool
has_spir spir slot = slot.live && (slot.sa.spir == spir)

abbrev pub receives_at : ℕ → Slot → Bool
receives_at spi slot = slot.live && (slot.sa.spi_out == spi)

-- an association of the peer has the responder's SPI, closed or not, or it receives at the same SPI
abbrev pub clashes : Record → Slot → Bool
clashes sa slot = (slot.sa.spir == sa.spir) || receives_at sa.spi_out slot

-- no association of the peer stands in the way
abbrev pub admits : List Slot → Record → Bool
admits slots sa = not (list_any (clashes sa) slots)

-- the first slot that passes a test
abbrev pub first_slot : (Slot → Bool) → List Slot → Option Slot
first_slot test [] = None
first_slot test (slot ∷ slots) = if test slot then Some slot else first_slot test slots

-- what the peer holds of an association after one more turn of its own at a moment
abbrev pub slot_after : Moment → Task → Step → Slot → Slot
slot_after now asked step slot = record {
  sa = slot.sa;
  live = live_after (is_forgotten slot.sa.spir asked step.verdict) slot.live;
  next = after_rise (agreed_in slot.sa.spir asked step.verdict)
      (after_number (used_in end.Peer slot.sa.spir counter.EspOut asked step) slot.next);
  window = after_received (received_in slot.sa.spir asked step.verdict) slot.window;
  iv = after_number (used_in end.Peer slot.sa.spir counter.Iv asked step) slot.iv;
  ask = after_jump (jumped_in slot.sa.spir counter.Ask asked step.verdict)
      (after_number (used_in end.Peer slot.sa.spir counter.Ask asked step) slot.ask);
  asked = outstanding_after (ends_in (agreed_in slot.sa.spir asked step.verdict))
      (request_in slot.sa.spir asked step) (replied_in slot.sa.spir asked step.verdict) slot.asked;
  answered = answered_after (agreed_in slot.sa.spir asked step.verdict)
      (response_in slot.sa.spir asked step) slot.answered;
  highest = after_heard (heard_in slot.sa.spir asked step.verdict) slot.highest;
  ticket = first_some (ticket_in slot.sa.spir now asked step.verdict) slot.ticket;
}

-- and what it holds of all of them
abbrev pub slots_after : ℕ → Moment → Task → Step → List Slot → List Slot
slots_after size now asked step slots =
    map (slot_after now asked step) slots ++ option_to_list
    (option_map (entered_slot size) (entered_at_task asked step.verdict))

-- a payload is sent under the next number, unless the counter is at its end
pub record SlotSends (slot : Slot) (payload : List ℕ) (step : Step) : Type 0 where
  pub within : slot.next < end_of slot.sa counter.EspOut
      → SendsEsp (slot_outbound slot) slot.next payload step
  pub ended : end_of slot.sa counter.EspOut ≤ slot.next → Says (out.Refused refusal.Exhausted) step

-- the peer sends a payload in a live association
abbrev pub PeerSends : ℕ → List Slot → List ℕ → Step → Type 0
PeerSends spir slots payload step = MatchOption (first_slot (has_spir spir) slots)
    (Says (out.Refused refusal.Unknown) step)
    (λ slot. SlotSends slot payload step)

-- what a slot answers to a packet that was opened or dropped
abbrev pub SlotTakes : Slot → Result EspOpened EspDrop → EspVerdict → Type 0
SlotTakes slot (Err why) answer = answer ≡ esp.Dropped why
SlotTakes slot (Ok packet) answer = answer ≡ esp.Accepted
    (peer_counter slot.sa counter.EspIn) packet

-- what a slot answers to the octets of a packet
pub record SlotReceives (slot : Slot) (octets : List ℕ) (answer : EspVerdict)
    (after : List ℕ) : Type 0 where
  pub opened : Result EspOpened EspDrop
  pub opens : OpensEsp (slot_inbound slot) octets opened after
  pub takes : SlotTakes slot opened answer

-- What the peer answers to the octets of a packet, and what they are then: they are too short, or
-- nothing receives at their SPI, or the slot answers that does.
pub record PeerReceives (slots : List Slot) (octets : List ℕ) (answer : EspVerdict)
    (after : List ℕ) : Type 0 where
  pub short : length octets < 34 → Drops drop.Short octets answer after
  pub long : 34 ≤ length octets → MatchOption (first_slot (receives_at (spi_of octets)) slots)
      (Drops drop.WrongSpi octets answer after)
      (λ slot. SlotReceives slot octets answer after)

-- the peer closes its end of a live association, and tells nobody
abbrev pub PeerForgets : ℕ → List Slot → Step → Type 0
PeerForgets spir slots step = MatchOption (first_slot (has_spir spir) slots)
    (Says (out.Refused refusal.Unknown) step)
    (λ slot. Says out.Forgotten step)
