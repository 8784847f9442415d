-- How many calls the ends make at an event, how long what they give is, and where a service executes.
use Rattle.std.proofs.Common.{ℕ, ◌≤◌, not, Option, Some, None, Result, Ok, Err, MatchOption, List, length}
use Rattle.events.specs.Events.{plain}
use Rattle.events.specs.Ranges.{Fits}
use Rattle.events.specs.declared.event.Event.{Event}
use Rattle.events.specs.declared.event.Event.TheVariants as event
use Rattle.events.specs.declared.event.Party.{Party}
use Rattle.events.specs.declared.event.Party.TheVariants as parties
use Rattle.events.specs.declared.turn.Medium.{Medium}
use Rattle.events.specs.declared.turn.Medium.TheVariants as medium
use Rattle.events.specs.declared.turn.Step.{Step}
use Rattle.events.specs.declared.verdict.Refusal.{Refusal}
use Rattle.events.specs.declared.verdict.Verdict.{Verdict}
use Rattle.events.specs.declared.verdict.Verdict.TheVariants as out
use Rattle.ha_base.specs.declared.outside.Moment.{Moment}
use Rattle.keeper_book.specs.declared.calls.Call.{Call}
use Rattle.turn_rules.specs.Configurations.{fresh_octets}
use Rattle.turn_rules.specs.Datagrams.{PlainDatagram, arrives}
use Rattle.turn_rules.specs.Deliveries.{MemberGets, PeerGets}
use Rattle.turn_rules.specs.Fits.{Does, Performs, Receives, Refuses, Yields, run_refusal}
use Rattle.turn_rules.specs.Slots.{Slot, admits}
use Rattle.turn_rules.specs.States.{RunState}
use Rattle.run_ends.proofs.Asking.{asks-proper, peer_asks-proper, peer_resends-proper, resends_of-proper, peer_forgets-proper}
use Rattle.run_ends.proofs.Bounds.{fits_ask, fits_send}
use Rattle.run_ends.proofs.MessageBounds.{IsBrief, request-few, ticket_request-few}
use Rattle.run_ends.proofs.Messages.{member_message-answered, member_message-said, peer_message-answered, peer_message-said}
use Rattle.run_ends.proofs.ShortKept.{HeldKeepsShort, StateKeepsShort}
use Rattle.run_ends.proofs.Syncing.{syncs-proper}
use Rattle.run_ends.proofs.Verdicts.{IsProper, draws-proper, imports-proper, member_takes-proper, none-few, peer_sends-proper, peer_takes-proper, quiet-brief, sends-proper, takes-proper}
use Rattle.run_ends.specs.Acting.{IsOfEnd}
use Rattle.turn_rules.specs.MemberStates.{MemberHeld}
use Rattle.ike_sas.specs.Answers.{request_payloads}
use Rattle.ike_sas.specs.TicketMessages.{ticket_request_payloads}

-- what a datagram comes to, as an end words it
pub member_gets-said : (m : Medium) (member : MemberHeld) (now : Moment) (octets : List ℕ) (calls : List Call) (step : Step) → MemberGets m member now octets calls step → IsOfEnd step.verdict
member_gets-said medium.Ike member now octets calls step t = member_message-said member now octets calls step t
member_gets-said medium.Esp member now octets calls step t = (member_takes-proper member.held octets calls step t).said

pub peer_gets-said : (m : Medium) (slots : List Slot) (octets : List ℕ) (calls : List Call) (step : Step) → PeerGets m slots octets calls step → IsOfEnd step.verdict
peer_gets-said medium.Ike slots octets calls step t = peer_message-said slots octets calls step t
peer_gets-said medium.Esp slots octets calls step t = (peer_takes-proper slots octets calls step t).said

-- of each event: by three calls at most, and nothing long is given
module _ (state : RunState) (short : StateKeepsShort state) (moment : Moment) (calls : List Call) (step : Step) where
  abbrev IsFew : Type 0
  IsFew = (length calls ≤ 3) × IsBrief step

  yields-few : (verdict : Verdict) → Yields verdict calls step → IsFew
  yields-few verdict y = (none-few calls y.no_calls, quiet-brief step y.says.quiet.gives)

  proper-few : IsProper calls step → IsFew
  proper-few p = (p.few, p.brief)

  member-few : (m : Medium) (member : MemberHeld) (octets : List ℕ) → ((spir : ℕ) → HeldKeepsShort (member.held spir)) → MemberGets m member moment octets calls step → IsFew
  member-few medium.Ike member octets keeps t = let a = member_message-answered member moment octets calls step keeps t in (a.few, a.brief)
  member-few medium.Esp member octets keeps t = proper-few (member_takes-proper member.held octets calls step t)

  peer-few : (m : Medium) (octets : List ℕ) → PeerGets m state.peer.slots octets calls step → IsFew
  peer-few medium.Ike octets t = let a = peer_message-answered state.peer.slots octets calls step short.of_peer t in (a.few, a.brief)
  peer-few medium.Esp octets t = proper-few (peer_takes-proper state.peer.slots octets calls step t)

  receives-few : (to : Party) (found : Result PlainDatagram Refusal) → Receives state moment to found calls step → IsFew
  receives-few to (Err why) r = absurd r
  receives-few parties.Peer (Ok datagram) r = peer-few datagram.medium datagram.octets r
  receives-few (parties.Member member) (Ok datagram) r = member-few datagram.medium (state.members member) datagram.octets (short.of_members member) r

  performs-few : (at : Event) → Fits (plain at) → Performs state moment at calls step → IsFew
  performs-few (event.Cluster identity lifetime window ticket_key) fits p = yields-few out.Configured p
  performs-few (event.Import sa) fits p = proper-few (imports-proper sa (not (admits state.peer.slots sa)) calls step p)
  performs-few (event.Join fresh) fits p = yields-few _ p
  performs-few (event.Own member spir) fits p = proper-few (takes-proper spir member calls step p)
  performs-few (event.Draw member spir) fits p = proper-few (draws-proper ((state.members member).held spir) calls step p)
  performs-few (event.Crash member) fits p = yields-few out.Down p
  performs-few (event.Send parties.Peer spir payload) fits p =
      (none-few calls p.0, (peer_sends-proper spir state.peer.slots payload.octets step (fits_send parties.Peer spir payload fits) p.1).brief)
  performs-few (event.Send (parties.Member member) spir payload) fits p =
      proper-few (sends-proper ((state.members member).held spir) payload.octets calls step (fits_send (parties.Member member) spir payload fits) p)
  performs-few (event.Ask parties.Peer spir request) fits p =
      (none-few calls p.0, (peer_asks-proper spir state.peer.slots (request_payloads request.octets) step (request-few request.octets (fits_ask parties.Peer spir request fits)) p.1).brief)
  performs-few (event.Ask (parties.Member member) spir request) fits p =
      proper-few (asks-proper ((state.members member).held spir) (request_payloads request.octets) calls step (request-few request.octets (fits_ask (parties.Member member) spir request fits)) p)
  performs-few (event.Again parties.Peer spir id) fits p = (none-few calls p.0, (peer_resends-proper spir state.peer.slots id step short.of_peer p.1).brief)
  performs-few (event.Again (parties.Member member) spir id) fits p = proper-few (resends_of-proper ((state.members member).held spir) id calls step (short.of_members member spir) p)
  performs-few (event.Sync member spir) fits p = proper-few (syncs-proper (fresh_octets (state.members member).given) ((state.members member).held spir) calls step p)
  performs-few (event.Ticket spir) fits p = (none-few calls p.0, (peer_asks-proper spir state.peer.slots ticket_request_payloads step ticket_request-few p.1).brief)
  performs-few (event.Forget spir) fits p = (none-few calls p.0, (peer_forgets-proper spir state.peer.slots step p.1).brief)
  performs-few (event.Deliver which to) fits p = receives-few to (arrives state.datagrams (event.Deliver which to)) p
  performs-few (event.Alter which to place octet) fits p = receives-few to (arrives state.datagrams (event.Alter which to place octet)) p
  performs-few (event.Cut which to keep) fits p = receives-few to (arrives state.datagrams (event.Cut which to keep)) p
  performs-few (event.Inject to medium octets) fits p = receives-few to (arrives state.datagrams (event.Inject to medium octets)) p

  pub does-few : (at : Event) → Fits (plain at) → Does state moment at calls step → IsFew
  does-few at fits does = go (run_refusal state at) does
    where
      go : (x : Option Refusal) → MatchOption x (Performs state moment at calls step) (λ why. Refuses why calls step) → IsFew
      go None p = performs-few at fits p
      go (Some why) r = yields-few (out.Refused why) r
