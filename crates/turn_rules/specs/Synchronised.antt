-- What a synchronisation makes of the counters of an association (RFC 6311, section 5).
use Rattle.std.specs.Prelude.{ℕ, ◌+◌, ◌==◌, max, Bool, true, false, Option, Some, None, if◌then◌else◌}
use Rattle.std.specs.Option.{option_map}
use Rattle.events.specs.declared.verdict.Verdict.{Verdict}
use Rattle.events.specs.declared.verdict.Verdict.TheVariants as out
use Rattle.ha_base.specs.declared.counter_names.CounterName.{CounterName}
use Rattle.ike_window.specs.Stored.{raised_to}
use Rattle.ike_window.specs.Windows.{ResponseWindow}
use Rattle.keeper_book.specs.declared.counters.Counter.{Counter}
use Rattle.keeper_book.specs.declared.counters.Counter.TheVariants as counter
use Rattle.turn_rules.specs.CountersOf.{is_counter_of}
use Rattle.turn_rules.specs.Tasks as task
use Rattle.turn_rules.specs.Tasks.{Task}

-- What an end took on: the Message ID of its next request, that of the next request that it expects,
-- by how much its ESP sequence number rose, and whether its outstanding requests ended.
pub record Agreed : Type 0 where
  pub next : ℕ
  pub floor : ℕ
  pub delta : ℕ
  pub ends_requests : Bool

abbrev pub agreed_under : ℕ → CounterName → Agreed → Option Agreed
agreed_under spir name agreed = if is_counter_of spir name then Some agreed else None

-- what an end took on in the association: the peer, whose requests end, or a member
abbrev pub agreed_in : ℕ → Task → Verdict → Option Agreed
agreed_in spir task.Receive (out.SyncAccepted name p2 m2 delta unknown) = agreed_under spir name
    (record { next = p2; floor = m2; delta = delta; ends_requests = true })
agreed_in spir task.Receive (out.Synced name next floor) = agreed_under spir name
    (record { next = next; floor = floor; delta = 0; ends_requests = false })
agreed_in spir asked verdict = None

-- the Message ID that a member announced in the association as that of its next request
abbrev pub announced_in : ℕ → Task → Verdict → Option ℕ
announced_in spir (task.Sync asked) (out.Syncing m1 p1) = if asked == spir then Some m1 else None
announced_in spir asked verdict = None

abbrev pub next_in : Option Agreed → Option ℕ
next_in agreed = option_map (λ (a : Agreed). a.next) agreed

-- the number of the counter below which none is used any more: of requests that one which was
-- announced, or taken on
abbrev pub jumped_in : ℕ → Counter → Task → Verdict → Option ℕ
jumped_in spir counter.Ask (task.Sync asked) verdict = announced_in spir (task.Sync asked) verdict
jumped_in spir counter.Ask task.Receive verdict = next_in (agreed_in spir task.Receive verdict)
jumped_in spir c asked verdict = None

abbrev pub after_jump : Option ℕ → ℕ → ℕ
after_jump None next = next
after_jump (Some to) next = max to next

abbrev pub after_rise : Option Agreed → ℕ → ℕ
after_rise None next = next
after_rise (Some agreed) next = next + agreed.delta

abbrev pub after_floor : Option Agreed → ResponseWindow → ResponseWindow
after_floor None answered = answered
after_floor (Some agreed) answered = raised_to agreed.floor answered

abbrev pub ends_in : Option Agreed → Bool
ends_in None = false
ends_in (Some agreed) = agreed.ends_requests
