-- Each turn that is explained is a deed.
use Rattle.std.proofs.Common.{◌≡◌, ℕ, not, Bool, true, false, Option, Some, None, MatchOption, List, Result, Ok, Err, refl, subst, sym}
use Rattle.events.specs.declared.event.Event.{Event}
use Rattle.events.specs.declared.event.Event.TheVariants as event
use Rattle.events.specs.declared.event.Party.{Party}
use Rattle.events.specs.declared.event.Party.TheVariants as parties
use Rattle.events.specs.declared.turn.Step.{Step}
use Rattle.events.specs.declared.turn.Turn.{Turn}
use Rattle.events.specs.declared.verdict.Refusal.{Refusal}
use Rattle.events.specs.declared.verdict.Refusal.TheVariants as refusal
use Rattle.events.specs.declared.verdict.Verdict.TheVariants as out
use Rattle.ha_base.specs.Octets.{WithRoom}
use Rattle.ha_base.specs.declared.outside.Moment.{Moment}
use Rattle.keeper_book.specs.declared.calls.Call.{Call}
use Rattle.keeper_book.specs.declared.records.Record.{Record}
use Rattle.turn_laws.proofs.Asking.{enters-deed, refused-deed, takes_over-deed, yields-deed}
use Rattle.ike_sas.specs.Answers.{request_payloads}
use Rattle.ike_sas.specs.TicketMessages.{ticket_request_payloads}
use Rattle.turn_laws.proofs.Deeds.{AreTicketsTold, Deed, Ended, Rested, says-rests}
use Rattle.turn_laws.proofs.MemberRequests.{asks-deed, member_message-deed, resends-deed, syncs-deed}
use Rattle.turn_laws.proofs.PeerRequests.{peer_asks-deed, peer_forgets-deed, peer_message-deed, peer_resends-deed}
use Rattle.turn_rules.specs.Deliveries.{MemberGets, PeerGets}
use Rattle.turn_rules.specs.MemberMessages.{AsksOf, SyncsOf}
use Rattle.events.specs.declared.turn.Medium.{Medium}
use Rattle.events.specs.declared.turn.Medium.TheVariants as medium
use Rattle.turn_laws.proofs.Drawing.{draws-deed}
use Rattle.turn_laws.proofs.Members.{own-held}
use Rattle.turn_laws.proofs.Receiving.{Brings, member_takes-deed, peer_takes-deed}
use Rattle.turn_laws.proofs.Sending.{peer_sends-deed, sends-deed}
use Rattle.turn_rules.specs.Configurations.{fresh_octets}
use Rattle.turn_rules.specs.Datagrams.{PlainDatagram, arrives}
use Rattle.turn_rules.specs.Draws.{EntersRecord}
use Rattle.turn_rules.specs.Ends.{Member, own}
use Rattle.turn_rules.specs.Fits.{Does, DrawsOf, Performs, Quietly, Receives, Refuses, Refusing, SendsOf, is_importable, refused_where, run_refusal}
use Rattle.turn_rules.specs.Held.{Held, held_by, window_by}
use Rattle.turn_rules.specs.Slots.{admits}
use Rattle.turn_rules.specs.States.{RunState, told_state}

module _ (boxes : ℕ) (past : List Turn) (own_spir : (member spir : ℕ) (held : Held) → held_by (window_by past) (own (Member member) past) spir ≡ Some held → held.sa.spir ≡ spir)
    (tickets : (member : ℕ) → AreTicketsTold past member) (now : Moment) (calls : List Call) (step : Step) where
  abbrev state : RunState
  state = told_state boxes past

  refused : (event : Event) (why : Refusal) → Refuses why calls step → Deed past event calls step
  refused event why r = refused-deed past step event calls why r

  imported : (sa : Record) → is_importable sa ≡ true → (b : Bool) → Refusing b refusal.SpiInUse calls step (Quietly (EntersRecord sa) calls step) → Deed past (event.Import sa) calls step
  imported sa importable true r = refused (event.Import sa) refusal.SpiInUse r
  imported sa importable false quietly = enters-deed past step sa calls importable quietly

  drawn : (member spir : ℕ) (x : Option Held) → (state.members member).held spir ≡ x → DrawsOf x calls step → Deed past (event.Draw member spir) calls step
  drawn member spir None e r = refused (event.Draw member spir) refusal.NotOwner r
  drawn member spir (Some held) e draws =
      let is_held : held_by (window_by past) (own (Member member) past) spir ≡ Some held = own-held boxes past member spir held e in
      draws-deed past step member spir held (own_spir member spir held is_held) is_held calls draws

  sent : (member spir : ℕ) (payload : WithRoom) (x : Option Held) → (state.members member).held spir ≡ x → SendsOf x payload.octets calls step → Deed past (event.Send (parties.Member member) spir payload) calls step
  sent member spir payload None e r = refused (event.Send (parties.Member member) spir payload) refusal.NotOwner r
  sent member spir payload (Some held) e sends =
      let is_held : held_by (window_by past) (own (Member member) past) spir ≡ Some held = own-held boxes past member spir held e in
      sends-deed past step member spir payload held (own_spir member spir held is_held) is_held calls sends

  received : (event : Event) (to : Party) → Brings event to → (found : Result PlainDatagram Refusal) → Receives state now to found calls step → Deed past event calls step
  received event to brings (Err why) r = absurd r
  received event parties.Peer brings (Ok datagram) gets = peer_gets datagram.medium gets
    where
      peer_gets : (m : Medium) → PeerGets m state.peer.slots datagram.octets calls step → Deed past event calls step
      peer_gets medium.Ike takes = peer_message-deed past event calls step brings datagram.octets takes
      peer_gets medium.Esp takes = peer_takes-deed past event brings datagram.octets calls step takes
  received event (parties.Member member) brings (Ok datagram) gets = member_gets datagram.medium gets
    where
      member_gets : (m : Medium) → MemberGets m (state.members member) now datagram.octets calls step → Deed past event calls step
      member_gets medium.Ike takes = member_message-deed boxes past own_spir tickets event calls step member brings now datagram.octets takes
      member_gets medium.Esp takes =
          member_takes-deed boxes past own_spir event calls step takes.quiet takes.answer takes.after takes.worded member brings datagram.octets takes.receives

  asked : (member spir : ℕ) (request : WithRoom) (x : Option Held) → (state.members member).held spir ≡ x → AsksOf x (request_payloads request.octets) calls step → Deed past (event.Ask (parties.Member member) spir request) calls step
  asked member spir request None e r = Rested r.0 (says-rests step (out.Refused refusal.NotOwner) tt r.1) refl
  asked member spir request (Some held) e asks =
      let is_held : held_by (window_by past) (own (Member member) past) spir ≡ Some held = own-held boxes past member spir held e in
      let same : held.sa.spir ≡ spir = own_spir member spir held is_held in
      asks-deed past step member spir request held same (subst (λ k. held_by (window_by past) (own (Member member) past) k ≡ Some held) (sym same) is_held) calls asks

  synced : (member spir : ℕ) (x : Option Held) → (state.members member).held spir ≡ x → SyncsOf (fresh_octets (state.members member).given) x calls step → Deed past (event.Sync member spir) calls step
  synced member spir None e r = Rested r.0 (says-rests step (out.Refused refusal.NotOwner) tt r.1) refl
  synced member spir (Some held) e does =
      let is_held : held_by (window_by past) (own (Member member) past) spir ≡ Some held = own-held boxes past member spir held e in
      let same : held.sa.spir ≡ spir = own_spir member spir held is_held in
      syncs-deed past step member spir (fresh_octets (state.members member).given) held (subst (λ k. held_by (window_by past) (own (Member member) past) k ≡ Some held) (sym same) is_held) calls does

  -- the run does not refuse an import of these SPIs
  importable : (sa : Record) → run_refusal state (event.Import sa) ≡ None → is_importable sa ≡ true
  importable sa none = by_test (is_importable sa) none
    where
      by_test : (b : Bool) → refused_where (not b) refusal.SpiRange None ≡ None → b ≡ true
      by_test true none = refl
      by_test false none = absurd (cc)

  performed : (event : Event) → run_refusal state event ≡ None → Performs state now event calls step → Deed past event calls step
  performed (event.Cluster identity lifetime window ticket_key) none y = yields-deed past step (event.Cluster identity lifetime window ticket_key) calls out.Configured tt refl y
  performed (event.Import sa) none p = imported sa (importable sa none) (not (admits state.peer.slots sa)) p
  performed (event.Join fresh) none y = yields-deed past step (event.Join fresh) calls (out.Member _) tt refl y
  performed (event.Own member spir) none quietly = takes_over-deed past step member spir calls quietly
  performed (event.Draw member spir) none draws = drawn member spir ((state.members member).held spir) refl draws
  performed (event.Crash member) none y = Ended member (let said : _ = y.says.said in rw said refl) y.no_calls y.says.said refl y.says.quiet
  performed (event.Send parties.Peer spir payload) none sends = peer_sends-deed past step spir payload calls sends.0 sends.1
  performed (event.Send (parties.Member member) spir payload) none sends = sent member spir payload ((state.members member).held spir) refl sends
  performed (event.Ask parties.Peer spir request) none asks = peer_asks-deed past step (event.Ask parties.Peer spir request) spir (request_payloads request.octets)
      (record { performs = λ verdict. refl; no_entry = λ verdict. refl; by_peer = refl; by_none = refl; receives = λ other verdict. refl; answers = λ other verdict. refl }) calls asks.0 asks.1
  performed (event.Ticket spir) none asks = peer_asks-deed past step (event.Ticket spir) spir ticket_request_payloads
      (record { performs = λ verdict. refl; no_entry = λ verdict. refl; by_peer = refl; by_none = refl; receives = λ other verdict. refl; answers = λ other verdict. refl }) calls asks.0 asks.1
  performed (event.Forget spir) none forgets = peer_forgets-deed past step spir calls forgets.0 forgets.1
  performed (event.Ask (parties.Member member) spir request) none asks = asked member spir request ((state.members member).held spir) refl asks
  performed (event.Again parties.Peer spir id) none r = peer_resends-deed past step spir id calls r.0 r.1
  performed (event.Again (parties.Member member) spir id) none r = resends-deed past step member spir id ((state.members member).held spir) calls r
  performed (event.Sync member spir) none does = synced member spir ((state.members member).held spir) refl does
  performed (event.Deliver which to) none r = received (event.Deliver which to) to (record { performs = λ verdict. refl; receives = λ spir verdict. refl; answers = λ spir verdict. refl; member_receives = refl; peer_receives = refl; no_entry = λ verdict. refl }) (arrives state.datagrams (event.Deliver which to)) r
  performed (event.Alter which to place octet) none r = received (event.Alter which to place octet) to (record { performs = λ verdict. refl; receives = λ spir verdict. refl; answers = λ spir verdict. refl; member_receives = refl; peer_receives = refl; no_entry = λ verdict. refl }) (arrives state.datagrams (event.Alter which to place octet)) r
  performed (event.Cut which to keep) none r = received (event.Cut which to keep) to (record { performs = λ verdict. refl; receives = λ spir verdict. refl; answers = λ spir verdict. refl; member_receives = refl; peer_receives = refl; no_entry = λ verdict. refl }) (arrives state.datagrams (event.Cut which to keep)) r
  performed (event.Inject to medium octets) none r = received (event.Inject to medium octets) to (record { performs = λ verdict. refl; receives = λ spir verdict. refl; answers = λ spir verdict. refl; member_receives = refl; peer_receives = refl; no_entry = λ verdict. refl }) (arrives state.datagrams (event.Inject to medium octets)) r

  -- a turn that is explained is a deed
  pub fits-deed : (event : Event) → Does state now event calls step → Deed past event calls step
  fits-deed event does = go (run_refusal state event) refl does
    where
      go : (x : Option Refusal) → run_refusal state event ≡ x → MatchOption x (Performs state now event calls step) (λ why. Refuses why calls step) → Deed past event calls step
      go None none p = performed event none p
      go (Some why) is r = refused event why r
