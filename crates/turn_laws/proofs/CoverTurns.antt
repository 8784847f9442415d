-- Which turns ask for covers of received ESP numbers.
use Rattle.std.proofs.Common.{◌≡◌, ℕ, ◌+◌, ◌≤◌, ◌==◌, ◌&&◌, not, Bool, true, false, Option, Some, None, MatchBool, MatchOption, Result, Ok, Err, List, [], ◌∷◌, ⊎_elim, length, refl, ap, sym, ◌∙◌, subst, arith, if◌then◌else◌}
use Rattle.std.proofs.lemmas.Bool.{cases_lt, eqb-true}
use Rattle.std.proofs.lemmas.Option.{same_Some}
use Rattle.std.specs.List.{AllByRecursion}
use Rattle.events.specs.declared.event.Event.{Event}
use Rattle.events.specs.declared.event.Event.TheVariants as event
use Rattle.events.specs.declared.event.Party.{Party}
use Rattle.events.specs.declared.event.Party.TheVariants as parties
use Rattle.events.specs.declared.turn.Medium.{Medium}
use Rattle.events.specs.declared.turn.Medium.TheVariants as medium
use Rattle.events.specs.declared.turn.Step.{Step}
use Rattle.events.specs.declared.verdict.EspVerdict.{EspVerdict}
use Rattle.events.specs.declared.verdict.Refusal.{Refusal}
use Rattle.events.specs.declared.verdict.Refusal.TheVariants as refusal
use Rattle.events.specs.declared.verdict.Verdict.TheVariants as out
use Rattle.ha_base.specs.declared.esp_outcomes.EspOpened.{EspOpened}
use Rattle.ha_base.specs.declared.outside.Moment.{Moment}
use Rattle.horizons.specs.Reaches.{cover_of, lead_of}
use Rattle.horizons.specs.Ready.{Ready}
use Rattle.horizons.specs.declared.stop.Stop.{Stop}
use Rattle.sk_payload.specs.declared.open.Opened.{Opened}
use Rattle.keeper_book.specs.Counters.{five_at}
use Rattle.keeper_book.specs.declared.calls.Call.{Call}
use Rattle.keeper_book.specs.declared.calls.KeeperAsk.TheVariants as ask
use Rattle.keeper_book.specs.declared.counters.Counter.{Counter}
use Rattle.keeper_book.specs.declared.counters.Counter.TheVariants as counter
use Rattle.keeper_book.specs.declared.records.Record.{Record}
use Rattle.turn_laws.proofs.Arrivals.{Answered_by, Rested_by, Sync_taken_by, Synchronised_by, Taken, message-taken}
use Rattle.turn_laws.proofs.Covers.{ready-calls}
use Rattle.turn_laws.specs.CaughtUp.{upto_asked}
use Rattle.turn_rules.proofs.Readies.{counter-named}
use Rattle.turn_rules.specs.Configurations.{fresh_octets}
use Rattle.turn_rules.specs.Datagrams.{PlainDatagram, arrives, delivery_of}
use Rattle.turn_rules.specs.Deliveries.{MemberGets, PeerGets}
use Rattle.turn_rules.specs.Draws.{Concludes, counter_name, EntersRecord, TakesOver, child_of, counter_kind, reach_of, refusal_of_stop}
use Rattle.turn_rules.specs.Ends.{Member, end_of_party, receiver_of}
use Rattle.turn_rules.specs.Fits.{Does, DrawsOf, Performs, Quietly, Receives, Refuses, Refusing, SendsOf, run_refusal}
use Rattle.turn_rules.specs.Held.{Held, is_counter, is_named}
use Rattle.turn_rules.specs.MemberMessages.{AsksOf, HeldAnswers, HeldSendsRequest, ReadiesThen, ReadiesWithIv, ResendsOf, SendsSync, SyncsOf, held_ike, member_listener, sync_id}
use Rattle.turn_rules.specs.MemberPackets.{IsReceived, TakesPacket, outbound_of}
use Rattle.ike_sas.specs.declared.ticket_messages.TicketAnswer.{TicketAnswer}
use Rattle.turn_rules.specs.Messages.{AnswersRequest, SendsRequest, TakesMessage, Windowed}
use Rattle.turn_rules.specs.Packets.{SendsEsp}
use Rattle.turn_rules.specs.PeerMessages.{peer_listener}
use Rattle.ike_sas.specs.Answers.{request_payloads}
use Rattle.ike_values.specs.Values.{PayloadValue}
use Rattle.turn_rules.specs.Slots.{Slot, admits}
use Rattle.turn_rules.specs.States.{RunState}
use Rattle.turn_rules.specs.MemberStates.{MemberHeld}
use Rattle.turn_rules.specs.MemberTickets.{TellsTicket}
use Rattle.turn_laws.proofs.Covers.{IsLease}
use Rattle.turn_laws.proofs.Tickets.{HasLot, tells-calls}
use Rattle.turn_rules.specs.Steps.{RefusesThen, Says}

-- none of the calls asks for such a cover
abbrev pub AsksNone : Call → Type 0
AsksNone call = (spir : ℕ) → upto_asked spir counter.EspIn call.asked ≡ None

abbrev pub NoneAsked : List Call → Type 0
NoneAsked calls = AllByRecursion AsksNone calls

no-calls : (calls : List Call) → calls ≡ [] → NoneAsked calls
no-calls calls none = subst NoneAsked (sym none) tt

-- a cover of another counter is none of them
other-cover : (c : Counter) → is_counter counter.EspIn c ≡ false → (call : Call) (spir epoch upto : ℕ)
    → call.asked ≡ ask.Cover spir (counter_kind c) (child_of c) epoch upto → AsksNone call
other-cover c other call spir epoch upto asked at =
    ap (upto_asked at counter.EspIn) asked
    ∙ (ap (λ x. if (spir == at) && is_named counter.EspIn x then Some upto else None) (counter-named c)
    ∙ (ap (λ b. if (spir == at) && b then Some upto else None) other ∙ failed (spir == at)))
  where
    failed : (b : Bool) → (if b && false then Some upto else None) ≡ None
    failed true = refl
    failed false = refl

-- where a number of another counter gets ready, and then the next IV, none is asked for
ready-none : (held : Held) (c : Counter) → is_counter counter.EspIn c ≡ false → (at : ℕ) (stops : Stop → List Call → Type 0) (goes : ℕ → List Call → Type 0)
    → ((why : Stop) (rest : List Call) → stops why rest → NoneAsked rest)
    → ((high : ℕ) (rest : List Call) → goes high rest → NoneAsked rest) → (calls : List Call) → Ready (reach_of held c) at calls stops goes → NoneAsked calls
ready-none held c other at stops goes stopped gone calls ready = ready-calls NoneAsked (reach_of held c) at stops goes
    (λ call rest asked more. (other-cover c other call held.sa.spir held.epoch (cover_of (reach_of held c) at) asked, more))
    stopped gone calls ready

readies_then-none : (held : Held) (c : Counter) → is_counter counter.EspIn c ≡ false → (at : ℕ) (step : Step) (goes : List Call → Type 0) → ((rest : List Call) → goes rest → NoneAsked rest) → (calls : List Call)
    → ReadiesThen held c at calls step goes → NoneAsked calls
readies_then-none held c other at step goes none calls ready = ready-none held c other at
    (λ why rest. RefusesThen (refusal_of_stop why) rest step)
    (λ high rest. Ready (reach_of held counter.Iv) (five_at held.nexts counter.Iv) rest (λ why rest. RefusesThen (refusal_of_stop why) rest step)
    (λ high rest. goes rest))
    (λ why rest s. no-calls rest s.0)
    (λ high rest more. ready-none held counter.Iv refl (five_at held.nexts counter.Iv) (λ why rest. RefusesThen (refusal_of_stop why) rest step)
    (λ high rest. goes rest)
    (λ why rest s. no-calls rest s.0) (λ high rest so. none rest so) rest more)
    calls ready

readies-none : (held : Held) (c : Counter) → is_counter counter.EspIn c ≡ false → (at : ℕ) (step : Step) (done : Type 0) (calls : List Call)
    → ReadiesWithIv held c at calls step done → NoneAsked calls
readies-none held c other at step done calls ready = readies_then-none held c other at step (λ rest. (rest ≡ []) × done) (λ rest d. no-calls rest d.0) calls ready

taken-none : (spir member : ℕ) (step : Step) (calls : List Call) → TakesOver spir member calls step.verdict → NoneAsked calls
taken-none spir member step [] is = absurd is
taken-none spir member step (call ∷ other ∷ more) is = absurd is
taken-none spir member step (call ∷ []) is = ((λ at. ap (upto_asked at counter.EspIn) is.0), tt)

entered-none : (sa : Record) (step : Step) (calls : List Call) → EntersRecord sa calls step.verdict → NoneAsked calls
entered-none sa step [] is = absurd is
entered-none sa step (call ∷ other ∷ more) is = absurd is
entered-none sa step (call ∷ []) is = ((λ at. ap (upto_asked at counter.EspIn) is.0), tt)

imported-none : (sa : Record) (calls : List Call) (step : Step) (b : Bool) → Refusing b refusal.SpiInUse calls step (Quietly (EntersRecord sa) calls step)
    → NoneAsked calls
imported-none sa calls step true r = no-calls calls r.no_calls
imported-none sa calls step false quietly = entered-none sa step calls quietly.follows

drawn-none : (x : Option Held) (calls : List Call) (step : Step) → DrawsOf x calls step → NoneAsked calls
drawn-none None calls step r = no-calls calls r.no_calls
drawn-none (Some held) calls step quietly = ready-none held counter.EspOut refl (five_at held.nexts counter.EspOut)
    (λ why rest. Concludes rest step.verdict (out.Refused (refusal_of_stop why)))
    (λ high rest. Concludes rest step.verdict (out.Number (five_at held.nexts counter.EspOut)))
    (λ why rest c. no-calls rest c.no_more) (λ high rest c. no-calls rest c.no_more) calls quietly.follows

sent-none : (payload : List ℕ) (x : Option Held) (calls : List Call) (step : Step) → SendsOf x payload calls step → NoneAsked calls
sent-none payload None calls step r = no-calls calls r.no_calls
sent-none payload (Some held) calls step sends = ready-none held counter.EspOut refl (five_at held.nexts counter.EspOut)
    (λ why rest. (rest ≡ []) × Says (out.Refused (refusal_of_stop why)) step)
    (λ high rest. (rest ≡ []) × SendsEsp (outbound_of held) (five_at held.nexts counter.EspOut) payload step)
    (λ why rest s. no-calls rest s.0) (λ high rest s. no-calls rest s.0) calls sends

resent-none : (id : ℕ) (x : Option Held) (calls : List Call) (step : Step) → ResendsOf x id calls step → NoneAsked calls
resent-none id None calls step r = no-calls calls r.0
resent-none id (Some held) calls step r = no-calls calls r.0

asked-none : (request : List PayloadValue) (x : Option Held) (calls : List Call) (step : Step) → AsksOf x request calls step → NoneAsked calls
asked-none request None calls step r = no-calls calls r.0
asked-none request (Some held) calls step asks = by_synced held.synced asks
  where
    id : ℕ
    id = five_at held.nexts counter.Ask

    by_synced : (b : Bool)
        → MatchBool b (Windowed (held_ike held) id (λ least. RefusesThen (refusal.WindowFull least) calls step) (HeldSendsRequest held request calls step))
        (RefusesThen refusal.NotSynced calls step) → NoneAsked calls
    by_synced true w = ⊎_elim
        (λ fits. readies-none held counter.Ask refl id step (SendsRequest (held_ike held) id (five_at held.nexts counter.Iv) request step) calls fits.1)
        (λ full. no-calls calls full.3.0)
        w
    by_synced false r = no-calls calls r.0

synced-none : (fresh : List ℕ) (x : Option Held) (calls : List Call) (step : Step) → SyncsOf fresh x calls step → NoneAsked calls
synced-none fresh None calls step r = no-calls calls r.0
synced-none fresh (Some held) calls step does = by_synced held.synced does
  where
    by_synced : (b : Bool)
        → MatchBool b (RefusesThen refusal.NoSync calls step)
        (ReadiesWithIv held counter.Ask (sync_id held) calls step (SendsSync fresh held (five_at held.nexts counter.Iv) step)) → NoneAsked calls
    by_synced true r = no-calls calls r.0
    by_synced false ready = readies-none held counter.Ask refl (sync_id held) step (SendsSync fresh held (five_at held.nexts counter.Iv) step) calls ready

peer_message-none : (slots : List Slot) (octets : List ℕ) (calls : List Call) (step : Step) → TakesMessage (peer_listener slots) octets calls step
    → NoneAsked calls
peer_message-none slots octets calls step takes = go (message-taken (peer_listener slots) calls step octets takes)
  where
    go : Taken (peer_listener slots) calls step → NoneAsked calls
    go (Rested_by none rests) = no-calls calls none
    go (Answered_by slot request found new answers) = no-calls calls answers.no_calls
    go (Synchronised_by slot request found does) = no-calls calls does.no_calls
    go (Sync_taken_by slot response found takes) = absurd takes

-- a lease asks for no cover
leased-none : (call : Call) → IsLease call → NoneAsked (call ∷ [])
leased-none call lease = ((λ at. ap (upto_asked at counter.EspIn) lease.asked), tt)

member_message-none : (m : MemberHeld) → HasLot m → (now : Moment) (octets : List ℕ) (calls : List Call) (step : Step)
    → TakesMessage (member_listener m now) octets calls step → NoneAsked calls
member_message-none m within now octets calls step takes = go (message-taken (member_listener m now) calls step octets takes)
  where
    answered : (held : Held) (request : Opened) → HeldAnswers m now held request calls step → NoneAsked calls
    answered held request answers = readies_then-none held counter.Answer refl request.header.id step (λ rest. TellsTicket m now held.sa request rest step Answers)
        (λ rest tells. tells-calls m within now held.sa request step Answers NoneAsked (λ says. tt) (λ ticket so. tt) (λ call lease none. leased-none call lease) rest tells)
        calls answers
      where
        Answers : Option TicketAnswer → Type 0
        Answers ticket = AnswersRequest (counter_name held.sa counter.Answer) (held_ike held) (five_at held.nexts counter.Iv) request ticket step

    go : Taken (member_listener m now) calls step → NoneAsked calls
    go (Rested_by none rests) = no-calls calls none
    go (Answered_by held request found new answers) = answered held request answers
    go (Synchronised_by held request found does) = absurd does
    go (Sync_taken_by held response found takes) = no-calls calls takes.0

-- a packet that was opened asks for covers of its own number alone
pub record PacketOpened (held_of : ℕ → Option Held) (octets : List ℕ) (calls : List Call) : Type 0 where
  pub answer : EspVerdict
  pub after : List ℕ
  pub received : IsReceived held_of octets calls answer after

-- No such cover is asked for in a turn, or a member receives a packet.
pub data CoverTurn (state : RunState) (at : Event) (calls : List Call) : Type 0 where
  None_asked : NoneAsked calls → CoverTurn state at calls
  Packet_here : (member : ℕ) (octets : List ℕ) → receiver_of (delivery_of at) ≡ Some (Member member)
      → arrives state.datagrams at ≡ Ok (record { medium = medium.Esp; octets = octets })
      → PacketOpened (state.members member).held octets calls → CoverTurn state at calls

module _ (state : RunState) (within : (member : ℕ) → HasLot (state.members member)) (now : Moment) (calls : List Call) (step : Step) where
  abbrev Turns : Event → Type 0
  Turns at = CoverTurn state at calls

  received : (at : Event) (to : Party) → receiver_of (delivery_of at) ≡ Some (end_of_party to) → (found : Result PlainDatagram Refusal)
      → arrives state.datagrams at ≡ found → Receives state now to found calls step → Turns at
  received at to addressed (Err why) e r = absurd r
  received at parties.Peer addressed (Ok datagram) e gets = None_asked (peer_gets datagram.medium gets)
    where
      peer_gets : (m : Medium) → PeerGets m state.peer.slots datagram.octets calls step → NoneAsked calls
      peer_gets medium.Ike takes = peer_message-none state.peer.slots datagram.octets calls step takes
      peer_gets medium.Esp takes = no-calls calls takes.no_calls
  received at (parties.Member member) addressed (Ok datagram) e gets = member_gets datagram.medium refl gets
    where
      member_gets : (m : Medium) → datagram.medium ≡ m
          → MemberGets m (state.members member) now datagram.octets calls step → Turns at
      member_gets medium.Ike is takes = None_asked (member_message-none (state.members member) (within member) now datagram.octets calls step takes)
      member_gets medium.Esp is takes = ⊎_elim
          (λ short. None_asked (no-calls calls (takes.receives.short short).0))
          (λ long. ⊎_elim
          (λ nowhere. None_asked (no-calls calls nowhere.1.0))
          (λ got. Packet_here member datagram.octets addressed (e ∙ ap (λ m. Ok (record { medium = m; octets = datagram.octets })) is)
          (record { answer = takes.answer; after = takes.after; received = got }))
          (takes.receives.long long))
          (cases_lt (length datagram.octets) 34)

  performed : (at : Event) → Performs state now at calls step → Turns at
  performed (event.Cluster identity lifetime window ticket_key) y = None_asked (no-calls calls y.no_calls)
  performed (event.Import sa) p = None_asked (imported-none sa calls step (not (admits state.peer.slots sa)) p)
  performed (event.Join fresh) y = None_asked (no-calls calls y.no_calls)
  performed (event.Own member spir) quietly = None_asked (taken-none spir member step calls quietly.follows)
  performed (event.Draw member spir) draws = None_asked (drawn-none ((state.members member).held spir) calls step draws)
  performed (event.Crash member) y = None_asked (no-calls calls y.no_calls)
  performed (event.Send parties.Peer spir payload) sends = None_asked (no-calls calls sends.0)
  performed (event.Send (parties.Member member) spir payload) sends = None_asked (sent-none payload.octets ((state.members member).held spir) calls step sends)
  performed (event.Ask parties.Peer spir request) asks = None_asked (no-calls calls asks.0)
  performed (event.Ask (parties.Member member) spir request) asks = None_asked (asked-none (request_payloads request.octets) ((state.members member).held spir) calls step asks)
  performed (event.Again parties.Peer spir id) r = None_asked (no-calls calls r.0)
  performed (event.Again (parties.Member member) spir id) r = None_asked (resent-none id ((state.members member).held spir) calls step r)
  performed (event.Sync member spir) does = None_asked (synced-none (fresh_octets (state.members member).given)
      ((state.members member).held spir) calls step does)
  performed (event.Ticket spir) asks = None_asked (no-calls calls asks.0)
  performed (event.Forget spir) forgets = None_asked (no-calls calls forgets.0)
  performed (event.Deliver which to) r = received (event.Deliver which to) to refl (arrives state.datagrams (event.Deliver which to)) refl r
  performed (event.Alter which to place octet) r = received (event.Alter which to place octet) to refl
      (arrives state.datagrams (event.Alter which to place octet)) refl r
  performed (event.Cut which to keep) r = received (event.Cut which to keep) to refl (arrives state.datagrams (event.Cut which to keep)) refl r
  performed (event.Inject to medium octets) r = received (event.Inject to medium octets) to refl
      (arrives state.datagrams (event.Inject to medium octets)) refl r

  -- which covers of received ESP numbers a turn asks for
  pub does-cover : (at : Event) → Does state now at calls step → Turns at
  does-cover at does = go (run_refusal state at) does
    where
      go : (x : Option Refusal) → MatchOption x (Performs state now at calls step) (λ why. Refuses why calls step) → Turns at
      go None p = performed at p
      go (Some why) r = None_asked (no-calls calls r.no_calls)

-- what a packet that a member received asks for: nothing, unless it opened
abbrev pub AsksWithin : Held → ℕ → Call → Type 0
AsksWithin held number call = (spir upto : ℕ) → upto_asked spir counter.EspIn call.asked ≡ Some upto → (held.sa.spir ≡ spir) ×
    (upto ≤ number + lead_of counter.EspIn)

own-cover : (held : Held) (number : ℕ) (call : Call)
    → call.asked ≡ ask.Cover held.sa.spir (counter_kind counter.EspIn) (child_of counter.EspIn) held.epoch (cover_of (reach_of held counter.EspIn) number)
    → AsksWithin held number call
own-cover held number call asked spir upto is =
    by_test (held.sa.spir == spir) refl
    (ap (λ x. if (held.sa.spir == spir) && is_named counter.EspIn x then Some (cover_of (reach_of held counter.EspIn) number) else None)
    (sym (counter-named counter.EspIn)) ∙ (ap (upto_asked spir counter.EspIn) (sym asked) ∙ is))
  where
    by_test : (b : Bool) → (held.sa.spir == spir) ≡ b
        → (if (held.sa.spir == spir) && true then Some (cover_of (reach_of held counter.EspIn) number) else None) ≡ Some upto
        → (held.sa.spir ≡ spir) × (upto ≤ number + lead_of counter.EspIn)
    by_test true t e =
        let same : cover_of (reach_of held counter.EspIn) number ≡ upto =
        same_Some (cover_of (reach_of held counter.EspIn) number) upto
        (ap (λ b. if b && true then Some (cover_of (reach_of held counter.EspIn) number) else None) (sym t) ∙ e) in
        (eqb-true held.sa.spir spir t, omega (arith, same))
    by_test false t e = let none : None ≡ Some upto = ap (λ b. if b && true then Some (cover_of (reach_of held counter.EspIn) number) else None) (sym t)
        ∙ e in absurd (cc)

pub takes-within : (held : Held) (packet : EspOpened) (calls : List Call) (answer : EspVerdict) → TakesPacket held (Ok packet) calls answer
    → AllByRecursion (AsksWithin held packet.number) calls
takes-within held packet calls answer takes = ready-calls (λ calls. AllByRecursion (AsksWithin held packet.number) calls)
    (reach_of held counter.EspIn) packet.number _ _
    (λ call rest asked more. (own-cover held packet.number call asked, more))
    (λ why rest s. subst (λ calls. AllByRecursion (AsksWithin held packet.number) calls) (sym s.0) tt)
    (λ high rest s. subst (λ calls. AllByRecursion (AsksWithin held packet.number) calls) (sym s.0) tt)
    calls takes
