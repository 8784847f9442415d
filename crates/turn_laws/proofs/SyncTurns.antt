-- Which turns have to do with a synchronisation.
use Rattle.std.proofs.Common.{◌≡◌, ℕ, not, Bool, true, false, Option, Some, None, MatchBool, MatchOption, Result, Ok, Err, List, [], ◌∷◌, ⊎_elim, inl, inr, refl, ap, ◌∙◌}
use Rattle.std.proofs.lemmas.Bool.{cases_lt}
use Rattle.events.specs.declared.event.Event.{Event}
use Rattle.events.specs.declared.event.Event.TheVariants as event
use Rattle.events.specs.declared.event.Party.{Party}
use Rattle.events.specs.declared.event.Party.TheVariants as parties
use Rattle.events.specs.declared.turn.Medium.{Medium}
use Rattle.events.specs.declared.turn.Medium.TheVariants as medium
use Rattle.events.specs.declared.turn.Step.{Step}
use Rattle.events.specs.declared.verdict.EspVerdict.{EspVerdict}
use Rattle.events.specs.declared.verdict.EspVerdict.TheVariants as esp
use Rattle.events.specs.declared.verdict.Refusal.{Refusal}
use Rattle.events.specs.declared.verdict.Refusal.TheVariants as refusal
use Rattle.events.specs.declared.verdict.Verdict.{Verdict}
use Rattle.events.specs.declared.verdict.Verdict.TheVariants as out
use Rattle.ha_base.specs.declared.outside.Moment.{Moment}
use Rattle.horizons.specs.Ready.{Ready}
use Rattle.horizons.specs.declared.stop.Stop.{Stop}
use Rattle.ike_sas.specs.Answers.{request_payloads}
use Rattle.ike_sas.specs.Held.{IkeHeld}
use Rattle.ike_sas.specs.TicketMessages.{ticket_request_payloads}
use Rattle.ike_values.specs.Values.{PayloadValue}
use Rattle.ike_window.specs.Kept.{kept_octets}
use Rattle.keeper_book.specs.CounterEnds.{end_of}
use Rattle.keeper_book.specs.Counters.{five_at}
use Rattle.keeper_book.specs.Told.{seen}
use Rattle.keeper_book.specs.declared.calls.Call.{Call}
use Rattle.keeper_book.specs.declared.calls.KeeperAnswer.{KeeperAnswer}
use Rattle.keeper_book.specs.declared.calls.KeeperAnswer.TheVariants as answer
use Rattle.keeper_book.specs.declared.counters.Counter.TheVariants as counter
use Rattle.keeper_book.specs.declared.records.Record.{Record}
use Rattle.turn_laws.proofs.Covers.{ready-calls}
use Rattle.turn_laws.proofs.Receiving.{Brings}
use Rattle.turn_laws.proofs.SyncMessages.{AcceptedBy, TakenBy, member-hears, peer-hears, readies-said}
use Rattle.turn_laws.proofs.Tickets.{HasLot}
use Rattle.turn_rules.proofs.NoSynchronisation.{is_of_sync}
use Rattle.turn_rules.specs.Configurations.{fresh_octets}
use Rattle.turn_rules.specs.Datagrams.{PlainDatagram, arrives}
use Rattle.turn_rules.specs.Deliveries.{MemberGets, PeerGets}
use Rattle.turn_rules.specs.Draws.{Admits, Concludes, EntersRecord, Grants, TakesOver, reach_of, refusal_of_import, refusal_of_stop, refusal_of_takeover}
use Rattle.turn_rules.specs.Fits.{Does, DrawsOf, Performs, Quietly, Receives, Refuses, Refusing, SendsOf, run_refusal}
use Rattle.turn_rules.specs.Held.{Held}
use Rattle.turn_rules.specs.MemberMessages.{AsksOf, HeldSendsRequest, ReadiesWithIv, ResendsOf, SendsSync, SyncsOf, held_ike, sync_id}
use Rattle.turn_rules.specs.MemberPackets.{outbound_of}
use Rattle.turn_rules.specs.Messages.{GivesAgain, Resends, SendsRequest, Windowed}
use Rattle.turn_rules.specs.Packets.{IsVerdictOf, SendsEsp}
use Rattle.turn_rules.specs.PeerMessages.{SlotAsks, SlotSendsRequest, slot_ike}
use Rattle.turn_rules.specs.Slots.{Slot, SlotSends, admits, first_slot, has_spir}
use Rattle.turn_rules.specs.States.{RunState}
use Rattle.turn_rules.specs.Steps.{RefusesThen, Says}

abbrev IsOther : Step → Type 0
IsOther step = is_of_sync step.verdict ≡ false

-- the message that a turn brings
abbrev pub Arrives : RunState → Event → List ℕ → Type 0
Arrives state event octets = arrives state.datagrams event ≡ Ok (record { medium = medium.Ike; octets = octets })

-- A turn says nothing of a synchronisation, or a member asks for one, the peer accepts one, or a member takes the response to its own.
pub data SyncTurn (state : RunState) (at : Event) (calls : List Call) (step : Step) : Type 0 where
  Other : IsOther step → SyncTurn state at calls step
  Announced : (member spir : ℕ) (held : Held) → at ≡ event.Sync member spir → (state.members member).held spir ≡ Some held
      → SendsSync (fresh_octets (state.members member).given) held (five_at held.nexts counter.Iv) step → SyncTurn state at calls step
  Accepted_here : (octets : List ℕ) → Brings at parties.Peer → Arrives state at octets → AcceptedBy state.peer.slots octets step → SyncTurn state at calls step
  Taken_here : (member : ℕ) (octets : List ℕ) → Brings at (parties.Member member) → Arrives state at octets
      → TakenBy (fresh_octets (state.members member).given) (state.members member).held octets calls step → SyncTurn state at calls step

-- ---- what says nothing of one

says-other : (step : Step) (verdict : Verdict) → is_of_sync verdict ≡ false → step.verdict ≡ verdict → IsOther step
says-other step verdict other said = ap is_of_sync said ∙ other

again-other : (verdict : Verdict) (octets : List ℕ) (step : Step) → is_of_sync verdict ≡ false → GivesAgain verdict octets step → IsOther step
again-other verdict octets step other again = says-other step verdict other again.said

refused-other : (step : Step) (x : Option Refusal) → MatchOption x ⊥ (λ r. step.verdict ≡ out.Refused r) → IsOther step
refused-other step None is = absurd is
refused-other step (Some why) is = says-other step (out.Refused why) refl is

granted-other : (spir : ℕ) (step : Step) (calls : List Call) (member : ℕ) → TakesOver spir member calls step.verdict → IsOther step
granted-other spir step [] member is = absurd is
granted-other spir step (call ∷ other ∷ more) member is = absurd is
granted-other spir step (call ∷ []) member is = go (seen call) is.1
  where
    go : (a : KeeperAnswer) → Grants spir a step.verdict → IsOther step
    go (answer.Taken taken) is = says-other step (out.Owned taken.epoch taken.bases) refl is.1
    go (answer.Refused why) is = refused-other step (refusal_of_takeover why) is
    go answer.Done is = absurd is
    go (answer.First first) is = absurd is
    go (answer.Look spent) is = absurd is

entered-other : (sa : Record) (step : Step) (calls : List Call) → EntersRecord sa calls step.verdict → IsOther step
entered-other sa step [] is = absurd is
entered-other sa step (call ∷ other ∷ more) is = absurd is
entered-other sa step (call ∷ []) is = go (seen call) is.1
  where
    go : (a : KeeperAnswer) → Admits a step.verdict → IsOther step
    go answer.Done is = says-other step out.Entered refl is
    go (answer.Refused why) is = refused-other step (refusal_of_import why) is
    go (answer.Taken taken) is = absurd is
    go (answer.First first) is = absurd is
    go (answer.Look spent) is = absurd is

imported-other : (sa : Record) (calls : List Call) (step : Step) (b : Bool) → Refusing b refusal.SpiInUse calls step (Quietly (EntersRecord sa) calls step)
    → IsOther step
imported-other sa calls step true r = ap is_of_sync r.says.said
imported-other sa calls step false quietly = entered-other sa step calls quietly.follows

drawn-other : (x : Option Held) (calls : List Call) (step : Step) → DrawsOf x calls step → IsOther step
drawn-other None calls step r = ap is_of_sync r.says.said
drawn-other (Some held) calls step quietly = ready-calls (λ calls. IsOther step) (reach_of held counter.EspOut) (five_at held.nexts counter.EspOut)
    (λ why rest. Concludes rest step.verdict (out.Refused (refusal_of_stop why)))
    (λ high rest. Concludes rest step.verdict (out.Number (five_at held.nexts counter.EspOut)))
    (λ call rest asked is. is)
    (λ why rest c. ap is_of_sync c.said)
    (λ high rest c. ap is_of_sync c.said)
    calls quietly.follows

sent-other : (payload : List ℕ) (x : Option Held) (calls : List Call) (step : Step) → SendsOf x payload calls step → IsOther step
sent-other payload None calls step r = ap is_of_sync r.says.said
sent-other payload (Some held) calls step sends = ready-calls (λ calls. IsOther step) (reach_of held counter.EspOut) (five_at held.nexts counter.EspOut)
    (λ why rest. (rest ≡ []) × Says (out.Refused (refusal_of_stop why)) step)
    (λ high rest. (rest ≡ []) × SendsEsp (outbound_of held) (five_at held.nexts counter.EspOut) payload step)
    (λ call rest asked is. is)
    (λ why rest s. ap is_of_sync s.1.said)
    (λ high rest s. ap is_of_sync s.1.said)
    calls sends

slot_sent-other : (payload : List ℕ) (x : Option Slot) (step : Step)
    → MatchOption x (Says (out.Refused refusal.Unknown) step) (λ slot. SlotSends slot payload step) → IsOther step
slot_sent-other payload None step says = ap is_of_sync says.said
slot_sent-other payload (Some slot) step sends = ⊎_elim
    (λ below. ap is_of_sync (sends.within below).said)
    (λ ended. ap is_of_sync (sends.ended ended).said)
    (cases_lt slot.next (end_of slot.sa counter.EspOut))

resent-other : (id : ℕ) (held : IkeHeld) (step : Step) → Resends id held step → IsOther step
resent-other id held step r = go (kept_octets id held.asked) r
  where
    go : (o : Option (List ℕ)) → MatchOption o (Says (out.Refused (refusal.NotOutstanding id)) step) (λ octets. GivesAgain (out.Resent id) octets step)
        → IsOther step
    go None says = ap is_of_sync says.said
    go (Some octets) again = again-other (out.Resent id) octets step refl again

resends-other : (id : ℕ) (x : Option Held) (calls : List Call) (step : Step) → ResendsOf x id calls step → IsOther step
resends-other id None calls step r = ap is_of_sync r.1.said
resends-other id (Some held) calls step r = resent-other id (held_ike held) step r.1

slot_resends-other : (id : ℕ) (x : Option Slot) (step : Step)
    → MatchOption x (Says (out.Refused refusal.Unknown) step) (λ slot. Resends id (slot_ike slot) step) → IsOther step
slot_resends-other id None step says = ap is_of_sync says.said
slot_resends-other id (Some slot) step r = resent-other id (slot_ike slot) step r

asked-other : (request : List PayloadValue) (x : Option Held) (calls : List Call) (step : Step) → AsksOf x request calls step → IsOther step
asked-other request None calls step r = ap is_of_sync r.1.said
asked-other request (Some held) calls step asks = by_synced held.synced asks
  where
    id : ℕ
    id = five_at held.nexts counter.Ask

    Sent : Type 0
    Sent = SendsRequest (held_ike held) id (five_at held.nexts counter.Iv) request step

    by_synced : (b : Bool)
        → MatchBool b (Windowed (held_ike held) id (λ least. RefusesThen (refusal.WindowFull least) calls step) (HeldSendsRequest held request calls step))
        (RefusesThen refusal.NotSynced calls step) → IsOther step
    by_synced true w = ⊎_elim
        (λ fits. readies-said held counter.Ask id step Sent (λ s. ap is_of_sync s.said) calls fits.1)
        (λ full. ap is_of_sync full.3.1.said)
        w
    by_synced false r = ap is_of_sync r.1.said

slot_asks-other : (request : List PayloadValue) (x : Option Slot) (step : Step)
    → MatchOption x (Says (out.Refused refusal.Unknown) step) (λ slot. SlotAsks slot request step) → IsOther step
slot_asks-other request None step says = ap is_of_sync says.said
slot_asks-other request (Some slot) step w = ⊎_elim (λ fits. sends fits.1) (λ full. ap is_of_sync full.3.said) w
  where
    sends : SlotSendsRequest slot request step → IsOther step
    sends s = ⊎_elim
        (λ asks. ⊎_elim
        (λ seals. ap is_of_sync (s.within asks seals).said)
        (λ ended. ap is_of_sync (s.ended (inr ended)).said)
        (cases_lt slot.iv (end_of slot.sa counter.Iv)))
        (λ ended. ap is_of_sync (s.ended (inl ended)).said)
        (cases_lt slot.ask (end_of slot.sa counter.Ask))

slot_forgotten-other : (x : Option Slot) (step : Step) → MatchOption x (Says (out.Refused refusal.Unknown) step) (λ slot. Says out.Forgotten step) → IsOther step
slot_forgotten-other None step says = ap is_of_sync says.said
slot_forgotten-other (Some slot) step says = ap is_of_sync says.said

worded-other : (a : EspVerdict) (after : List ℕ) (step : Step) → IsVerdictOf a after step.verdict → IsOther step
worded-other (esp.Accepted name packet) after step worded = ap is_of_sync worded.2
worded-other (esp.Dropped why) after step worded = ap is_of_sync worded
worded-other (esp.Refused why) after step worded = ap is_of_sync worded

-- ---- what does

module _ (state : RunState) (within : (member : ℕ) → HasLot (state.members member)) (now : Moment) (calls : List Call) (step : Step) where
  abbrev fresh_of : ℕ → List ℕ
  fresh_of member = fresh_octets (state.members member).given

  abbrev Turns : Event → Type 0
  Turns at = SyncTurn state at calls step

  syncs : (member spir : ℕ) (x : Option Held) → (state.members member).held spir ≡ x → SyncsOf (fresh_of member) x calls step → Turns (event.Sync member spir)
  syncs member spir None e r = Other (ap is_of_sync r.1.said)
  syncs member spir (Some held) e does = by_synced held.synced does
    where
      Sent : Type 0
      Sent = SendsSync (fresh_of member) held (five_at held.nexts counter.Iv) step

      sends : ReadiesWithIv held counter.Ask (sync_id held) calls step Sent → Turns (event.Sync member spir)
      sends ready = ready-calls (λ calls. Turns (event.Sync member spir)) (reach_of held counter.Ask) (sync_id held) Stopped
          (λ high rest. Ready (reach_of held counter.Iv) (five_at held.nexts counter.Iv) rest Stopped (λ high rest. (rest ≡ []) × Sent))
          (λ call rest asked is. is)
          (λ why rest s. Other (ap is_of_sync s.1.said))
          (λ high rest more. ready-calls (λ calls. Turns (event.Sync member spir)) (reach_of held counter.Iv) (five_at held.nexts counter.Iv) Stopped
          (λ high rest. (rest ≡ []) × Sent)
          (λ call rest asked is. is)
          (λ why rest s. Other (ap is_of_sync s.1.said))
          (λ high rest d. Announced member spir held refl e d.1)
          rest more)
          calls ready
        where
          Stopped : Stop → List Call → Type 0
          Stopped why rest = RefusesThen (refusal_of_stop why) rest step

      by_synced : (b : Bool) → MatchBool b (RefusesThen refusal.NoSync calls step) (ReadiesWithIv held counter.Ask (sync_id held) calls step Sent)
          → Turns (event.Sync member spir)
      by_synced true r = Other (ap is_of_sync r.1.said)
      by_synced false ready = sends ready

  received : (event : Event) (to : Party) → Brings event to → (found : Result PlainDatagram Refusal) → arrives state.datagrams event ≡ found
      → Receives state now to found calls step → Turns event
  received event to brings (Err why) e r = absurd r
  received event parties.Peer brings (Ok datagram) e gets = peer_gets datagram.medium refl gets
    where
      arrived : datagram.medium ≡ medium.Ike → Arrives state event datagram.octets
      arrived ike = e ∙ ap (λ m. Ok (record { medium = m; octets = datagram.octets })) ike

      peer_gets : (m : Medium) → datagram.medium ≡ m → PeerGets m state.peer.slots datagram.octets calls step → Turns event
      peer_gets medium.Ike ike takes = ⊎_elim Other (λ accepted. Accepted_here datagram.octets brings (arrived ike) accepted)
          (peer-hears state.peer.slots datagram.octets calls step takes)
      peer_gets medium.Esp esp takes = Other (worded-other takes.answer takes.after step takes.worded)
  received event (parties.Member member) brings (Ok datagram) e gets = member_gets datagram.medium refl gets
    where
      arrived : datagram.medium ≡ medium.Ike → Arrives state event datagram.octets
      arrived ike = e ∙ ap (λ m. Ok (record { medium = m; octets = datagram.octets })) ike

      member_gets : (m : Medium) → datagram.medium ≡ m → MemberGets m (state.members member) now datagram.octets calls step → Turns event
      member_gets medium.Ike ike takes = ⊎_elim Other (λ taken. Taken_here member datagram.octets brings (arrived ike) taken)
          (member-hears (state.members member) (within member) now datagram.octets calls step takes)
      member_gets medium.Esp esp takes = Other (worded-other takes.answer takes.after step takes.worded)

  performed : (event : Event) → Performs state now event calls step → Turns event
  performed (event.Cluster identity lifetime window ticket_key) y = Other (ap is_of_sync y.says.said)
  performed (event.Import sa) p = Other (imported-other sa calls step (not (admits state.peer.slots sa)) p)
  performed (event.Join fresh) y = Other (ap is_of_sync y.says.said)
  performed (event.Own member spir) quietly = Other (granted-other spir step calls member quietly.follows)
  performed (event.Draw member spir) draws = Other (drawn-other ((state.members member).held spir) calls step draws)
  performed (event.Crash member) y = Other (ap is_of_sync y.says.said)
  performed (event.Send parties.Peer spir payload) sends = Other (slot_sent-other payload.octets (first_slot (has_spir spir) state.peer.slots) step sends.1)
  performed (event.Send (parties.Member member) spir payload) sends = Other (sent-other payload.octets ((state.members member).held spir) calls step sends)
  performed (event.Ask parties.Peer spir request) asks = Other (slot_asks-other (request_payloads request.octets) (first_slot (has_spir spir) state.peer.slots) step asks.1)
  performed (event.Ask (parties.Member member) spir request) asks = Other (asked-other (request_payloads request.octets) ((state.members member).held spir) calls step asks)
  performed (event.Again parties.Peer spir id) r = Other (slot_resends-other id (first_slot (has_spir spir) state.peer.slots) step r.1)
  performed (event.Again (parties.Member member) spir id) r = Other (resends-other id ((state.members member).held spir) calls step r)
  performed (event.Sync member spir) does = syncs member spir ((state.members member).held spir) refl does
  performed (event.Ticket spir) asks = Other (slot_asks-other ticket_request_payloads (first_slot (has_spir spir) state.peer.slots) step asks.1)
  performed (event.Forget spir) forgets = Other (slot_forgotten-other (first_slot (has_spir spir) state.peer.slots) step forgets.1)
  performed (event.Deliver which to) r = received (event.Deliver which to) to
      (record {
        performs = λ verdict. refl;
        receives = λ spir verdict. refl;
        answers = λ spir verdict. refl;
        member_receives = refl;
        peer_receives = refl;
        no_entry = λ verdict. refl;
      }) (arrives state.datagrams (event.Deliver which to)) refl r
  performed (event.Alter which to place octet) r = received (event.Alter which to place octet) to
      (record {
        performs = λ verdict. refl;
        receives = λ spir verdict. refl;
        answers = λ spir verdict. refl;
        member_receives = refl;
        peer_receives = refl;
        no_entry = λ verdict. refl;
      }) (arrives state.datagrams (event.Alter which to place octet)) refl r
  performed (event.Cut which to keep) r = received (event.Cut which to keep) to
      (record {
        performs = λ verdict. refl;
        receives = λ spir verdict. refl;
        answers = λ spir verdict. refl;
        member_receives = refl;
        peer_receives = refl;
        no_entry = λ verdict. refl;
      }) (arrives state.datagrams (event.Cut which to keep)) refl r
  performed (event.Inject to medium octets) r = received (event.Inject to medium octets) to
      (record {
        performs = λ verdict. refl;
        receives = λ spir verdict. refl;
        answers = λ spir verdict. refl;
        member_receives = refl;
        peer_receives = refl;
        no_entry = λ verdict. refl;
      }) (arrives state.datagrams (event.Inject to medium octets)) refl r

  -- what a turn has to do with a synchronisation
  pub does-sync : (event : Event) → Does state now event calls step → Turns event
  does-sync event does = go (run_refusal state event) does
    where
      go : (x : Option Refusal) → MatchOption x (Performs state now event calls step) (λ why. Refuses why calls step) → Turns event
      go None p = performed event p
      go (Some why) r = Other (ap is_of_sync r.says.said)
