-- No more members join than there are services for.
use Rattle.std.proofs.Common.{◌≡◌, ℕ, suc, ◌<◌, ◌≤◌, ◌||◌, Bool, true, false, not, Option, Some, None, Result, Ok, Err, MatchOption, List, ◌∷◌, ap, subst, sym, ◌∙◌, refl, arith}
use Rattle.std.specs.Prelude.{nat_le}
use Rattle.std.proofs.lemmas.Bool.{leb-false, or_parts}
use Rattle.events.specs.Events.{plain}
use Rattle.events.specs.Ranges.{Fits}
use Rattle.events.specs.declared.event.Event.{Event}
use Rattle.events.specs.declared.event.Event.TheVariants as event
use Rattle.events.specs.declared.event.Party.{Party}
use Rattle.events.specs.declared.event.Party.TheVariants as parties
use Rattle.events.specs.declared.turn.Step.{Step}
use Rattle.events.specs.declared.turn.Turn.{Turn}
use Rattle.events.specs.declared.verdict.Refusal.{Refusal}
use Rattle.events.specs.declared.verdict.Refusal.TheVariants as refusal
use Rattle.events.specs.declared.verdict.Verdict.TheVariants as out
use Rattle.ha_base.specs.declared.outside.Moment.{Moment}
use Rattle.keeper_book.specs.declared.calls.Call.{Call}
use Rattle.keeper_book.specs.declared.records.Record.{Record}
use Rattle.run_ends.proofs.Asking.{asks-proper, peer_asks-proper, peer_forgets-proper}
use Rattle.run_ends.proofs.Bounds.{fits_ask, fits_send}
use Rattle.run_ends.proofs.MessageBounds.{request-few, ticket_request-few}
use Rattle.run_ends.proofs.Performing.{member_gets-said, peer_gets-said}
use Rattle.run_ends.proofs.Syncing.{syncs-proper}
use Rattle.run_ends.proofs.Verdicts.{draws-proper, enters-proper, peer_sends-proper, sends-proper, takes-proper}
use Rattle.run_ends.specs.Runs.{Grows, Run}
use Rattle.turn_rules.proofs.StateLaws.{does-told, local-explained}
use Rattle.turn_rules.specs.Configurations.{fresh_octets}
use Rattle.turn_rules.specs.Datagrams.{PlainDatagram, arrives}
use Rattle.turn_rules.specs.Draws.{EntersRecord}
use Rattle.turn_rules.specs.Fits.{Does, MAX_MEMBERS, Performs, Quietly, Receives, Refuses, Refusing, refused_where, run_refusal}
use Rattle.turn_rules.specs.Held.{Held}
use Rattle.turn_rules.specs.Local.{Local}
use Rattle.turn_rules.specs.MemberMessages.{ResendsOf, held_ike}
use Rattle.turn_rules.specs.Messages.{GivesAgain, Resends}
use Rattle.turn_rules.specs.PeerMessages.{slot_ike}
use Rattle.turn_rules.specs.Slots.{Slot, admits, first_slot, has_spir}
use Rattle.turn_rules.specs.States.{RunState, is_join, joins, told_state}
use Rattle.turn_rules.specs.Steps.{Says}
use Rattle.ike_sas.specs.Answers.{request_payloads}
use Rattle.ike_sas.specs.Held.{IkeHeld}
use Rattle.ike_sas.specs.TicketMessages.{ticket_request_payloads}
use Rattle.ike_window.specs.Kept.{kept_octets}

module _ (state : RunState) (moment : Moment) (calls : List Call) (step : Step) where
  abbrev NoJoin : Type 0
  NoJoin = is_join step.verdict ≡ false

  says-none : (why : Refusal) → Says (out.Refused why) step → NoJoin
  says-none why says = ap is_join says.said

  imports-none : (sa : Record) (b : Bool) → Refusing b refusal.SpiInUse calls step (Quietly (EntersRecord sa) calls step) → NoJoin
  imports-none sa true r = ap is_join r.says.said
  imports-none sa false quietly = (enters-proper sa calls step quietly).said.no_join

  receives-none : (to : Party) (found : Result PlainDatagram Refusal) → Receives state moment to found calls step → NoJoin
  receives-none to (Err why) r = absurd r
  receives-none parties.Peer (Ok datagram) r = (peer_gets-said datagram.medium state.peer.slots datagram.octets calls step r).no_join
  receives-none (parties.Member member) (Ok datagram) r = (member_gets-said datagram.medium (state.members member) moment datagram.octets calls step r).no_join

  resends-none : (held : IkeHeld) (id : ℕ) → Resends id held step → NoJoin
  resends-none held id = go (kept_octets id held.asked)
    where
      go : (x : Option (List ℕ)) → MatchOption x (Says (out.Refused (refusal.NotOutstanding id)) step) (λ octets. GivesAgain (out.Resent id) octets step) → NoJoin
      go None says = says-none (refusal.NotOutstanding id) says
      go (Some octets) gives = ap is_join gives.said

  peer-resends-none : (x : Option Slot) (id : ℕ) → MatchOption x (Says (out.Refused refusal.Unknown) step) (λ slot. Resends id (slot_ike slot) step) → NoJoin
  peer-resends-none None id says = says-none refusal.Unknown says
  peer-resends-none (Some slot) id resends = resends-none (slot_ike slot) id resends

  member-resends-none : (held : Option Held) (id : ℕ) → ResendsOf held id calls step → NoJoin
  member-resends-none None id r = says-none refusal.NotOwner r.1
  member-resends-none (Some held) id r = resends-none (held_ike held) id r.1

  never : NoJoin → is_join step.verdict ≡ true → state.joined < state.boxes
  never none join = absurd (let no : true ≡ false = sym join ∙ none in cc)

  room : (few : Bool) → refused_where few (refusal.NoRoom state.joined) None ≡ None → few ≡ false
  room true e = absurd (cc)
  room false e = refl

  -- a member joins where there is a service for it, and at no other event
  performs-joins : (at : Event) → Fits (plain at) → run_refusal state at ≡ None → Performs state moment at calls step → is_join step.verdict ≡ true → state.joined < state.boxes
  performs-joins (event.Cluster identity lifetime window ticket_key) fits free p = never (ap is_join p.says.said)
  performs-joins (event.Import sa) fits free p = never (imports-none sa (not (admits state.peer.slots sa)) p)
  performs-joins (event.Join fresh) fits free p = λ join.
      leb-false state.boxes state.joined (or_parts (nat_le MAX_MEMBERS state.joined) (nat_le state.boxes state.joined) (room (nat_le MAX_MEMBERS state.joined || nat_le state.boxes state.joined) free)).1
  performs-joins (event.Own member spir) fits free p = never (takes-proper spir member calls step p).said.no_join
  performs-joins (event.Draw member spir) fits free p = never (draws-proper ((state.members member).held spir) calls step p).said.no_join
  performs-joins (event.Crash member) fits free p = never (ap is_join p.says.said)
  performs-joins (event.Send parties.Peer spir payload) fits free p =
      never (peer_sends-proper spir state.peer.slots payload.octets step (fits_send parties.Peer spir payload fits) p.1).said.no_join
  performs-joins (event.Send (parties.Member member) spir payload) fits free p =
      never (sends-proper ((state.members member).held spir) payload.octets calls step (fits_send (parties.Member member) spir payload fits) p).said.no_join
  performs-joins (event.Ask parties.Peer spir request) fits free p =
      never (peer_asks-proper spir state.peer.slots (request_payloads request.octets) step (request-few request.octets (fits_ask parties.Peer spir request fits)) p.1).said.no_join
  performs-joins (event.Ask (parties.Member member) spir request) fits free p =
      never (asks-proper ((state.members member).held spir) (request_payloads request.octets) calls step (request-few request.octets (fits_ask (parties.Member member) spir request fits)) p).said.no_join
  performs-joins (event.Again parties.Peer spir id) fits free p = never (peer-resends-none (first_slot (has_spir spir) state.peer.slots) id p.1)
  performs-joins (event.Again (parties.Member member) spir id) fits free p = never (member-resends-none ((state.members member).held spir) id p)
  performs-joins (event.Sync member spir) fits free p =
      never (syncs-proper (fresh_octets (state.members member).given) ((state.members member).held spir) calls step p).said.no_join
  performs-joins (event.Ticket spir) fits free p = never (peer_asks-proper spir state.peer.slots ticket_request_payloads step ticket_request-few p.1).said.no_join
  performs-joins (event.Forget spir) fits free p = never (peer_forgets-proper spir state.peer.slots step p.1).said.no_join
  performs-joins (event.Deliver which to) fits free p = never (receives-none to (arrives state.datagrams (event.Deliver which to)) p)
  performs-joins (event.Alter which to place octet) fits free p = never (receives-none to (arrives state.datagrams (event.Alter which to place octet)) p)
  performs-joins (event.Cut which to keep) fits free p = never (receives-none to (arrives state.datagrams (event.Cut which to keep)) p)
  performs-joins (event.Inject to medium octets) fits free p = never (receives-none to (arrives state.datagrams (event.Inject to medium octets)) p)

  does-joins : (at : Event) → Fits (plain at) → Does state moment at calls step → is_join step.verdict ≡ true → state.joined < state.boxes
  does-joins at fits does = go (run_refusal state at) refl does
    where
      go : (x : Option Refusal) → run_refusal state at ≡ x → MatchOption x (Performs state moment at calls step) (λ why. Refuses why calls step) → is_join step.verdict ≡ true → state.joined < state.boxes
      go None free p = performs-joins at fits free p
      go (Some why) e r = never (ap is_join r.says.said)

turn-joins : (boxes : ℕ) (past : List Turn) (turn : Turn) → Local boxes (turn ∷ past) → Fits (plain turn.event) → joins past ≤ boxes → joins (turn ∷ past) ≤ boxes
turn-joins boxes past turn local fits few = go (is_join turn.step.verdict) refl
  where
    told : is_join turn.step.verdict ≡ true → joins past < boxes
    told =
        let explained = local-explained boxes (turn ∷ past) local in
        does-joins (told_state boxes past) turn.moment turn.calls turn.step turn.event fits (does-told boxes past turn explained.0 explained.1)

    go : (b : Bool) → is_join turn.step.verdict ≡ b → joins (turn ∷ past) ≤ boxes
    go true e = let more : joins past < boxes = told e in let counted : joins (turn ∷ past) ≡ suc (joins past) = rw e refl in omega (arith, more, counted)
    go false e = let same : joins (turn ∷ past) ≡ joins past = rw e refl in omega (arith, same, few)

pub run-joins : (old new : Run) (now : Moment) (event : Event) (grows : Grows old now event new) → Local new.boxes new.past → Fits (plain event) → joins old.past ≤ old.boxes → joins new.past ≤ new.boxes
run-joins old new now event grows local fits few =
    subst (λ p. joins p ≤ new.boxes) (sym grows.more) (turn-joins new.boxes old.past grows.turn (subst (λ p. Local new.boxes p) grows.more local) (subst (λ e. Fits (plain e)) (sym grows.of_event) fits)
    (subst (λ n. joins old.past ≤ n) (sym grows.boxes) few))
