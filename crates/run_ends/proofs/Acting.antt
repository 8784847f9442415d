-- What the ends do at an event is one by the rules, and they hold then what the turn makes of what they held.
use Rattle.std.proofs.Common.{◌≡◌, ℕ, suc, true, Option, Some, None, Ok, List, [], get_or, refl, ap, sym, ◌∙◌, subst}
use Rattle.std.proofs.Math.ListN.{set}
use Rattle.std.specs.Prelude.{MatchOption, is_some}
use Rattle.events.specs.declared.event.Event.{Event}
use Rattle.events.specs.declared.event.Event.TheVariants as event
use Rattle.events.specs.declared.event.Party.{Party}
use Rattle.events.specs.declared.event.Party.TheVariants as parties
use Rattle.events.specs.declared.turn.Step.{Step}
use Rattle.events.specs.declared.turn.Turn.{Turn}
use Rattle.events.specs.declared.verdict.Refusal.{Refusal}
use Rattle.events.specs.declared.verdict.Verdict.{Verdict}
use Rattle.events.specs.declared.verdict.Verdict.TheVariants as out
use Rattle.ha_base.specs.declared.outside.Moment.{Moment}
use Rattle.keeper_book.specs.declared.calls.Call.{Call}
use Rattle.turn_rules.proofs.Refusals.{refusal-of_run}
use Rattle.turn_rules.specs.Configurations.{configured_in}
use Rattle.turn_rules.specs.Datagrams.{PlainDatagram, arrives, datagrams_of, delivery_of}
use Rattle.turn_rules.specs.Ends.{Member, Peer, Performer, end_of_party, performer_of}
use Rattle.turn_rules.specs.Fits.{Performs, Receives, Refuses, member_of, named_in, run_refusal}
use Rattle.turn_rules.specs.PeerStates.{peer_after}
use Rattle.turn_rules.specs.States.{RunState, ended_by}
use Rattle.turn_rules.specs.Steps.{Says}
use Rattle.turn_rules.specs.Tasks as task
use Rattle.turn_rules.specs.Tasks.{member_task, peer_task}
use Rattle.cluster_member.specs.Members.{Holder}
use Rattle.cluster_peer.specs.Slots.{PeerWithRoom}
use Rattle.run_ends.proofs.Holding.{member-holds, peer-holds, refused-holds}
use Rattle.run_ends.proofs.Seats.{acted-in_place, counted, seat_of}
use Rattle.run_ends.specs.Acting.{MemberActs, PeerActs, asks_an_end}
use Rattle.run_ends.specs.Parties.{Acts, AreInPlace, EndsHeld, IsMember, IsMemberPlace, Plays, holder_of, member_at, member_seen, nobody, state_of}

-- the run refuses an event, or it is performed
pub refused-plays : (past : List Turn) (s : EndsHeld) (moment : Moment) (at : Event) (why : Refusal) (step : Step) → AreInPlace s → run_refusal (state_of past s) at ≡ Some why → Says (out.Refused why) step → Plays past s moment at [] step s
refused-plays past s moment at why step in_place e says = record {
  does = subst (λ x. MatchOption x (Performs (state_of past s) moment at [] step) (λ why. Refuses why [] step)) (sym e) (record { no_calls = refl; says = says });
  holds = refused-holds past s moment at [] step why (refusal-of_run (state_of past s) at why e) says.said;
  in_place = in_place;
}

pub acted-plays : (past : List Turn) (s : EndsHeld) (moment : Moment) (at : Event) (calls : List Call) (step : Step) (new : EndsHeld) → run_refusal (state_of past s) at ≡ None → Acts past s moment at calls step new → Plays past s moment at calls step new
acted-plays past s moment at calls step new e acts = record {
  does = subst (λ x. MatchOption x (Performs (state_of past s) moment at calls step) (λ why. Refuses why calls step)) (sym e) acts.performs;
  holds = acts.holds;
  in_place = acts.in_place;
}

-- the member that an event names performs it, and else the peer
abbrev named_end : Option ℕ → Performer
named_end None = Peer
named_end (Some member) = Member member

party-end : (party : Party) → Some (end_of_party party) ≡ Some (named_end (member_of party))
party-end parties.Peer = refl
party-end (parties.Member member) = refl

by-named : (at : Event) (verdict : Verdict) → asks_an_end at ≡ true → performer_of at verdict ≡ Some (named_end (named_in at))
by-named (event.Cluster identity lifetime window ticket_key) verdict asks = absurd (cc)
by-named (event.Join fresh) verdict asks = absurd (cc)
by-named (event.Crash member) verdict asks = absurd (cc)
by-named (event.Send from spir payload) verdict asks = party-end from
by-named (event.Ask from spir request) verdict asks = party-end from
by-named (event.Again from spir id) verdict asks = party-end from
by-named (event.Deliver which to) verdict asks = party-end to
by-named (event.Alter which to place octet) verdict asks = party-end to
by-named (event.Cut which to keep) verdict asks = party-end to
by-named (event.Inject to medium octets) verdict asks = party-end to
by-named at verdict asks = refl

-- it configures nothing, and ends nobody
unset : (at : Event) (verdict : Verdict) → asks_an_end at ≡ true → configured_in at verdict ≡ None
unset (event.Cluster identity lifetime window ticket_key) verdict asks = absurd (cc)
unset at verdict asks = refl

stays-up : (at : Event) (verdict : Verdict) → asks_an_end at ≡ true → ended_by at verdict ≡ None
stays-up (event.Crash member) verdict asks = absurd (cc)
stays-up at verdict asks = refl

-- a member that is up has its number, and holds what it is seen to hold
module _ (s : EndsHeld) (in_place : AreInPlace s) (member place : ℕ) (x : Option Holder) (is : IsMemberPlace member place s.members) (seat : x ≡ get_or s.members place x) (was : Holder) (some : x ≡ Some was) where
  its-seat : holder_of s.members (suc place) ≡ Some was
  its-seat = ap (holder_of s.members) (sym (counted member place s.members is)) ∙ seat_of (Some nobody) s.members member place x is seat ∙ some

  pub its-member : IsMember (suc place) s.config was
  its-member = in_place place was is.within its-seat

  pub its-number : was.number ≡ member
  its-number = its-member.number_is ∙ sym (counted member place s.members is)

  pub its-state : member_at s.members was.number ≡ member_seen (Some was)
  its-state = ap (member_at s.members) its-number ∙ ap member_seen (seat_of None s.members member place x is seat ∙ some)

module _ (past : List Turn) (s : EndsHeld) (in_place : AreInPlace s) (at : Event) (asks : asks_an_end at ≡ true) (calls : List Call) (step : Step) (moment : Moment) where
  -- a member does its part, and the others stay
  pub member-plays : (member place : ℕ) → named_in at ≡ Some member → (x : Option Holder) → IsMemberPlace member place s.members → x ≡ get_or s.members place x → (was now : Holder) → x ≡ Some was → MemberActs (datagrams_of past) moment at calls step was now
      → Acts past s moment at calls step (record s { members = set s.members place (Some now) })
  member-plays member place named x is seat was now some acts =
      let mine = its-member s in_place member place x is seat was some in
      let by : named_in at ≡ Some (suc place) = named ∙ ap Some (counted member place s.members is) in
      record {
        performs = acts.performs (state_of past s) (its-state s in_place member place x is seat was some) refl;
        holds = member-holds past s moment at calls step place is.within (record { by = λ v. by-named at v asks ∙ ap (λ m. Some (named_end m)) by; no_config = λ v. unset at v asks })
            acts.own.said (stays-up at step.verdict asks) was now (its-seat s in_place member place x is seat was some) mine.config_is acts.after;
        in_place = acted-in_place s place now is.within in_place (record { number_is = acts.after.number ∙ mine.number_is; config_is = acts.after.config ∙ mine.config_is });
      }

  -- and the peer does
  pub peer-plays : named_in at ≡ None → (was now : PeerWithRoom) → was.held ≡ s.peer → was.window ≡ s.config.window → PeerActs (datagrams_of past) moment at calls step was now → Acts past s moment at calls step (record s { peer = now.held })
  peer-plays named was now held window acts = record {
    performs = acts.performs (state_of past s) (sym held) refl;
    holds = peer-holds past s moment at calls step now.held acts.own.said (by-named at step.verdict asks ∙ ap (λ m. Some (named_end m)) named) (stays-up at step.verdict asks) (unset at step.verdict asks)
        (acts.after.holds ∙ ap (λ w. peer_after w moment (peer_task at) step was.held) window ∙ ap (peer_after s.config.window moment (peer_task at) step) held);
    in_place = in_place;
  }

-- an event by which something is delivered to an end
pub record Brings (at : Event) (to : Party) : Type 0 where
  pub named : named_in at ≡ member_of to
  pub delivers : is_some (delivery_of at) ≡ true
  pub performs : (state : RunState) (moment : Moment) (calls : List Call) (step : Step) → Receives state moment to (arrives state.datagrams at) calls step → Performs state moment at calls step
  pub member : member_task at ≡ task.Receive
  pub peer : peer_task at ≡ task.Receive

pub brings : (datagrams : List PlainDatagram) (at : Event) (datagram : PlainDatagram) → arrives datagrams at ≡ Ok datagram → (to : Party) × Brings at to
brings datagrams (event.Deliver which to) datagram e = (to, record { named = refl; delivers = refl; performs = λ state moment calls step r. r; member = refl; peer = refl })
brings datagrams (event.Alter which to place octet) datagram e = (to, record { named = refl; delivers = refl; performs = λ state moment calls step r. r; member = refl; peer = refl })
brings datagrams (event.Cut which to keep) datagram e = (to, record { named = refl; delivers = refl; performs = λ state moment calls step r. r; member = refl; peer = refl })
brings datagrams (event.Inject to medium octets) datagram e = (to, record { named = refl; delivers = refl; performs = λ state moment calls step r. r; member = refl; peer = refl })
brings datagrams at datagram e = absurd (cc)
