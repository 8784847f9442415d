-- What a turn changes in an association of the peer.
use Rattle.std.proofs.Common.{◌≡◌, ℕ, ◌==◌, Bool, false, Option, Some, None, List, refl, ap, sym, ◌∙◌, if◌then◌else◌}
use Rattle.events.specs.declared.turn.Step.{Step}
use Rattle.events.specs.declared.verdict.Refusal.{Refusal}
use Rattle.events.specs.declared.verdict.Verdict.{Verdict}
use Rattle.events.specs.declared.verdict.Verdict.TheVariants as out
use Rattle.ha_base.specs.declared.counter_names.CounterName.{CounterName}
use Rattle.ha_base.specs.declared.counter_names.End.TheVariants as end
use Rattle.ha_base.specs.declared.outside.Moment.{Moment}
use Rattle.ike_window.specs.Kept.{KeptMessage}
use Rattle.keeper_book.specs.declared.counters.Counter.TheVariants as counter
use Rattle.turn_rules.proofs.NoSynchronisation.{agreed-none, heard-refused, heard-taken, is_of_sync, jumped-none}
use Rattle.turn_rules.proofs.Ties.{received-refused, replied-refused, request-refused, response-refused, used-receiving, used-refused}
use Rattle.turn_rules.specs.Held.{accepted, after_number, after_received, first_some, iv_in, received_in, said_in, used_in}
use Rattle.turn_rules.specs.IkeState.{answered_after, heard_in, heard_said, sealed_iv, outstanding_after, replied_in, request_in, response_in, response_to, taken_id}
use Rattle.turn_rules.specs.Packets.{SendsEsp}
use Rattle.turn_rules.specs.PeerTickets.{KeptTicket, is_forgotten, live_after, ticket_in}
use Rattle.turn_rules.specs.Slots.{Slot, after_heard, slot_after, slot_outbound}
use Rattle.turn_rules.specs.Steps.{IsQuiet, Says}
use Rattle.turn_rules.specs.Synchronised.{Agreed, after_jump, after_rise, agreed_in, ends_in, jumped_in}
use Rattle.turn_rules.specs.Tasks as task
use Rattle.turn_rules.specs.Tasks.{Task}

-- The numbers that were used and received, the request that was sent, the one whose response came,
-- the response to one that was answered, the Message ID that came to be known, what was agreed on, to
-- where the Message IDs jumped, whether the association was closed, and the ticket that came.
pub record Moves : Type 0 where
  pub esp : Option ℕ
  pub received : Option ℕ
  pub iv : Option ℕ
  pub ask : Option ℕ
  pub request : Option KeptMessage
  pub replied : Option ℕ
  pub response : Option KeptMessage
  pub heard : Option ℕ
  pub agreed : Option Agreed
  pub jump : Option ℕ
  pub closed : Bool
  pub ticket : Option KeptTicket

abbrev pub nothing : Moves
nothing = record { esp = None; received = None; iv = None; ask = None; request = None; replied = None; response = None; heard = None; agreed = None; jump = None; closed = false; ticket = None }

abbrev pub moved : Moves → Slot → Slot
moved moves slot = record {
  sa = slot.sa;
  live = live_after moves.closed slot.live;
  next = after_rise moves.agreed (after_number moves.esp slot.next);
  window = after_received moves.received slot.window;
  iv = after_number moves.iv slot.iv;
  ask = after_jump moves.jump (after_number moves.ask slot.ask);
  asked = outstanding_after (ends_in moves.agreed) moves.request moves.replied slot.asked;
  answered = answered_after moves.agreed moves.response slot.answered;
  highest = after_heard moves.heard slot.highest;
  ticket = first_some moves.ticket slot.ticket;
}

-- the turn changes so much, at this moment, in the association of a responder's SPI
pub record Made (now : Moment) (asked : Task) (step : Step) (spir : ℕ) (moves : Moves) : Type 0 where
  pub esp : used_in end.Peer spir counter.EspOut asked step ≡ moves.esp
  pub received : received_in spir asked step.verdict ≡ moves.received
  pub iv : used_in end.Peer spir counter.Iv asked step ≡ moves.iv
  pub ask : used_in end.Peer spir counter.Ask asked step ≡ moves.ask
  pub request : request_in spir asked step ≡ moves.request
  pub replied : replied_in spir asked step.verdict ≡ moves.replied
  pub response : response_in spir asked step ≡ moves.response
  pub heard : heard_in spir asked step.verdict ≡ moves.heard
  pub agreed : agreed_in spir asked step.verdict ≡ moves.agreed
  pub jump : jumped_in spir counter.Ask asked step.verdict ≡ moves.jump
  pub closed : is_forgotten spir asked step.verdict ≡ moves.closed
  pub ticket : ticket_in spir now asked step.verdict ≡ moves.ticket

pub moved-after : (now : Moment) (asked : Task) (step : Step) (slot : Slot) (moves : Moves) → Made now asked step slot.sa.spir moves → moved moves slot ≡ slot_after now asked step slot
moved-after now asked step slot moves made i = record {
  sa = slot.sa;
  live = live_after (sym made.closed i) slot.live;
  next = after_rise (sym made.agreed i) (after_number (sym made.esp i) slot.next);
  window = after_received (sym made.received i) slot.window;
  iv = after_number (sym made.iv i) slot.iv;
  ask = after_jump (sym made.jump i) (after_number (sym made.ask i) slot.ask);
  asked = outstanding_after (ends_in (sym made.agreed i)) (sym made.request i) (sym made.replied i) slot.asked;
  answered = answered_after (sym made.agreed i) (sym made.response i) slot.answered;
  highest = after_heard (sym made.heard i) slot.highest;
  ticket = first_some (sym made.ticket i) slot.ticket;
}

-- a turn that changes nothing leaves a slot
pub nothing-after : (now : Moment) (asked : Task) (step : Step) (slot : Slot) → Made now asked step slot.sa.spir nothing → slot ≡ slot_after now asked step slot
nothing-after now asked step slot made = moved-after now asked step slot nothing made

closed-refused : (spir : ℕ) (asked : Task) (why : Refusal) → is_forgotten spir asked (out.Refused why) ≡ false
closed-refused spir (task.Forget other) why = refl
closed-refused spir asked why = refl

ticket-refused : (spir : ℕ) (now : Moment) (asked : Task) (why : Refusal) → ticket_in spir now asked (out.Refused why) ≡ None
ticket-refused spir now task.Receive why = refl
ticket-refused spir now asked why = refl

-- what is refused changes nothing
pub refused-made : (now : Moment) (asked : Task) (step : Step) (spir : ℕ) (why : Refusal) → Says (out.Refused why) step → Made now asked step spir nothing
refused-made now asked step spir why says = record {
  esp = used-refused end.Peer spir counter.EspOut asked why step says;
  received = ap (received_in spir asked) says.said ∙ received-refused spir asked why;
  iv = used-refused end.Peer spir counter.Iv asked why step says;
  ask = used-refused end.Peer spir counter.Ask asked why step says;
  request = request-refused spir asked why step says.said;
  replied = ap (replied_in spir asked) says.said ∙ replied-refused spir asked why;
  response = response-refused spir asked why step says.said;
  heard = ap (heard_in spir asked) says.said ∙ heard-refused spir asked why;
  agreed = ap (agreed_in spir asked) says.said ∙ agreed-none spir asked (out.Refused why) refl;
  jump = ap (jumped_in spir counter.Ask asked) says.said ∙ jumped-none spir counter.Ask asked (out.Refused why) refl;
  closed = ap (is_forgotten spir asked) says.said ∙ closed-refused spir asked why;
  ticket = ap (ticket_in spir now asked) says.said ∙ ticket-refused spir now asked why;
}

abbrev pub sent_esp : Option ℕ → Moves
sent_esp number = record nothing { esp = number }

abbrev pub received_esp : Option ℕ → Moves
received_esp number = record nothing { received = number }

-- a packet was sent in an association: no IKE message was sealed
pub sent-made : (now : Moment) (other spir number : ℕ) (payload octets : List ℕ) (slot : Slot) (step : Step) → SendsEsp (slot_outbound slot) number octets step → Made now (task.Send spir payload) step other (sent_esp (if spir == other then Some number else None))
sent-made now other spir number payload octets slot step sends = record {
  esp = ap (said_in other counter.EspOut (task.Send spir payload)) sends.said;
  received = refl;
  iv = ap (iv_in end.Peer other) sends.seals ∙ ap (λ (n : CounterName). first_some (sealed_iv end.Peer other sends.seal n.kind) None) sends.named;
  ask = refl;
  request = refl;
  replied = refl;
  response = refl;
  heard = refl;
  agreed = refl;
  jump = refl;
  closed = refl;
  ticket = refl;
}

-- a packet came, and was answered so; nothing was sealed
pub received-made : (now : Moment) (spir : ℕ) (step : Step) (verdict : Verdict) (number : Option ℕ) → IsQuiet step → step.verdict ≡ verdict → accepted spir verdict ≡ number → replied_in spir task.Receive verdict ≡ None → taken_id spir verdict ≡ None → is_of_sync verdict ≡ false → ticket_in spir now task.Receive verdict ≡ None
    → Made now task.Receive step spir (received_esp number)
received-made now spir step verdict number quiet said received replied taken other ticket = record {
  esp = used-receiving end.Peer spir counter.EspOut step quiet;
  received = ap (accepted spir) said ∙ received;
  iv = used-receiving end.Peer spir counter.Iv step quiet;
  ask = used-receiving end.Peer spir counter.Ask step quiet;
  request = refl;
  replied = ap (replied_in spir task.Receive) said ∙ replied;
  response = ap (λ v. response_to (taken_id spir v) step.gives) said ∙ ap (λ id. response_to id step.gives) taken;
  heard = ap (heard_said spir) said ∙ heard-taken spir verdict other ∙ taken;
  agreed = ap (agreed_in spir task.Receive) said ∙ agreed-none spir task.Receive verdict other;
  jump = ap (jumped_in spir counter.Ask task.Receive) said ∙ jumped-none spir counter.Ask task.Receive verdict other;
  closed = refl;
  ticket = ap (ticket_in spir now task.Receive) said ∙ ticket;
}

abbrev pub closed_there : Bool → Moves
closed_there closed = record nothing { closed = closed }

-- an association was closed
pub closed-made : (now : Moment) (other spir : ℕ) (step : Step) → Says out.Forgotten step → Made now (task.Forget spir) step other (closed_there (spir == other))
closed-made now other spir step says = record {
  esp = refl;
  received = refl;
  iv = ap (iv_in end.Peer other) says.quiet.seals;
  ask = refl;
  request = refl;
  replied = refl;
  response = refl;
  heard = refl;
  agreed = refl;
  jump = refl;
  closed = ap (is_forgotten other (task.Forget spir)) says.said;
  ticket = refl;
}
