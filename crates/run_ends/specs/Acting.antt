-- What one end does at an event that asks it something, by what it holds.
use Rattle.std.specs.Prelude.{◌≡◌, Bool, true, false, None, IfSome, Option, Some, List}
use Rattle.events.specs.declared.event.Event.{Event}
use Rattle.events.specs.declared.event.Event.TheVariants as event
use Rattle.events.specs.declared.turn.Step.{Step}
use Rattle.events.specs.declared.verdict.Verdict.{Verdict}
use Rattle.ha_base.specs.declared.outside.Moment.{Moment}
use Rattle.keeper_book.specs.declared.calls.Call.{Call}
use Rattle.turn_rules.specs.Datagrams.{Delivery, PlainDatagram, delivery_of}
use Rattle.turn_rules.specs.Ends.{is_refused_by_run}
use Rattle.turn_rules.specs.Fits.{Performs, refused_arrival}
use Rattle.turn_rules.specs.States.{RunState, is_join}
use Rattle.turn_rules.specs.Tasks.{member_task, peer_task}
use Rattle.cluster_member.specs.Members.{Holder, IsAfter}
use Rattle.cluster_peer.specs.Slots.{IsPeerAfterAt, PeerWithRoom}
use Rattle.run_ends.specs.Parties.{member_seen}

-- the event asks an end for something: it is none by which the run configures the ends, lets a
-- member join, or ends one
abbrev pub asks_an_end : Event → Bool
asks_an_end (event.Cluster identity lifetime window ticket_key) = false
asks_an_end (event.Join fresh) = false
asks_an_end (event.Crash member) = false
asks_an_end event = true

-- what is delivered, if anything is, arrives
abbrev pub Arrives : List PlainDatagram → Option Delivery → Type 0
Arrives datagrams delivery =
    IfSome delivery (λ some. refused_arrival (some.made datagrams) ≡ None)

-- a verdict that an end itself comes to
pub record IsOfEnd (verdict : Verdict) : Type 0 where
  pub no_join : is_join verdict ≡ false
  pub heard : is_refused_by_run verdict ≡ false

-- a step that an end comes to itself, and with no service where nothing is delivered
pub record IsOwnStep (at : Event) (step : Step) : Type 0 where
  pub said : IsOfEnd step.verdict
  pub alone : delivery_of at ≡ None → step.served ≡ None

-- a member does what the rule of the event says at a moment, whatever the other ends hold, and holds
-- then what the turn makes of it
pub record MemberActs (datagrams : List PlainDatagram) (now : Moment) (at : Event)
    (calls : List Call) (step : Step) (old new : Holder) : Type 0 where
  pub performs : (state : RunState)
      → state.members old.number ≡ member_seen (Some old) → state.datagrams ≡ datagrams
      → Performs state now at calls step
  pub after : IsAfter (member_task at) calls step old new
  pub own : IsOwnStep at step

-- and so does the peer
pub record PeerActs (datagrams : List PlainDatagram) (now : Moment) (at : Event)
    (calls : List Call) (step : Step) (old new : PeerWithRoom) : Type 0 where
  pub performs : (state : RunState)
      → state.peer ≡ old.held → state.datagrams ≡ datagrams
      → Performs state now at calls step
  pub after : IsPeerAfterAt now (peer_task at) step old new
  pub own : IsOwnStep at step
