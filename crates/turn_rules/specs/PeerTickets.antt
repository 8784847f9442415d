-- Which of its associations the peer closed, and the tickets that came in them.
use Rattle.std.specs.Prelude.{ℕ, ◌==◌, Bool, true, false, Option, Some, None, List, [], ◌∷◌, if◌then◌else◌}
use Rattle.events.specs.declared.ike_outcomes.Kept.{Kept}
use Rattle.events.specs.declared.ike_outcomes.Kept.TheVariants as kept
use Rattle.events.specs.declared.turn.Turn.{Turn}
use Rattle.events.specs.declared.verdict.Verdict.{Verdict}
use Rattle.events.specs.declared.verdict.Verdict.TheVariants as out
use Rattle.ha_base.specs.declared.counter_names.CounterName.{CounterName}
use Rattle.ha_base.specs.declared.outside.Moment.{Moment}
use Rattle.turn_rules.specs.CountersOf.{is_counter_of}
use Rattle.turn_rules.specs.Tasks as task
use Rattle.turn_rules.specs.Tasks.{Task, peer_task}

-- ---- closed associations

-- the peer closed its end of the association
abbrev pub is_forgotten : ℕ → Task → Verdict → Bool
is_forgotten spir (task.Forget asked) out.Forgotten = asked == spir
is_forgotten spir asked verdict = false

abbrev pub live_after : Bool → Bool → Bool
live_after true live = false
live_after false live = live

-- the association is live after turns of the peer's own: in none of them it closed it
abbrev pub is_live_after : ℕ → List Turn → Bool
is_live_after spir [] = true
is_live_after spir (turn ∷ past) =
    live_after (is_forgotten spir (peer_task turn.event) turn.step.verdict) (is_live_after spir past)

-- ---- tickets

-- a ticket that the peer keeps: its octets, its lifetime in seconds, and when it came
pub record KeptTicket : Type 0 where
  pub octets : List ℕ
  pub lifetime : ℕ
  pub received : Moment

-- the ticket that was kept of a response, which came at this moment
abbrev pub ticket_kept : Moment → Kept → Option KeptTicket
ticket_kept now (kept.Ticket lifetime ticket) =
    Some (record { octets = ticket.octets; lifetime = lifetime; received = now })
ticket_kept now other = None

-- in the association
abbrev pub ticket_under : ℕ → CounterName → Moment → Kept → Option KeptTicket
ticket_under spir name now is = if is_counter_of spir name then ticket_kept now is else None

-- the ticket that came in the association at a task
abbrev pub ticket_in : ℕ → Moment → Task → Verdict → Option KeptTicket
ticket_in spir now task.Receive (out.Reply name id reply is error) = ticket_under spir name now is
ticket_in spir now asked verdict = None

abbrev pub ticket_of : ℕ → Turn → Option KeptTicket
ticket_of spir turn = ticket_in spir turn.moment (peer_task turn.event) turn.step.verdict
