-- Each delivery of a packet that is explained is a deed.
use Rattle.std.proofs.Common.{◌≡◌, ℕ, ◌==◌, ◌&&◌, true, false, Option, Some, None, MatchOption, List, [], Result, Ok, Err, ⊎_elim, refl, ap, sym, ◌∙◌, subst, length, if◌then◌else◌}
use Rattle.std.proofs.lemmas.Bool.{cases_lt}
use Rattle.std.proofs.lemmas.Option.{same_Some}
use Rattle.esp_packets.specs.Packet.{spi_of}
use Rattle.events.specs.declared.event.Event.{Event}
use Rattle.events.specs.declared.event.Party.{Party}
use Rattle.events.specs.declared.event.Party.TheVariants as parties
use Rattle.events.specs.declared.turn.Step.{Step}
use Rattle.events.specs.declared.turn.Turn.{Turn}
use Rattle.events.specs.declared.verdict.EspVerdict.{EspVerdict}
use Rattle.events.specs.declared.verdict.EspVerdict.TheVariants as esp
use Rattle.events.specs.declared.verdict.Verdict.{Verdict}
use Rattle.events.specs.declared.verdict.Verdict.TheVariants as out
use Rattle.ha_base.specs.Octets.{WithRoom}
use Rattle.ha_base.specs.declared.counter_names.CounterName.{CounterName}
use Rattle.ha_base.specs.declared.esp_outcomes.EspDrop.{EspDrop}
use Rattle.ha_base.specs.declared.esp_outcomes.EspDrop.TheVariants as drop
use Rattle.ha_base.specs.declared.esp_outcomes.EspOpened.{EspOpened}
use Rattle.horizons.specs.declared.stop.Stop.{Stop}
use Rattle.keeper_book.specs.Records.{spir_of_origin}
use Rattle.keeper_book.specs.declared.calls.Call.{Call}
use Rattle.keeper_book.specs.declared.counters.Counter.{Counter}
use Rattle.keeper_book.specs.declared.counters.Counter.TheVariants as counter
use Rattle.keeper_book.specs.declared.records.Record.{Record}
use Rattle.turn_laws.specs.Acts.{Uses}
use Rattle.turn_laws.proofs.Covers.{ready-as, ready-calls}
use Rattle.turn_laws.proofs.Single.{one-used, one-peer-used}
use Rattle.turn_laws.proofs.Deeds.{number_theirs, Deed, IsIdle, Rested, Rests, Spends, UsesOne, quiet-rests, rest_of}
use Rattle.turn_laws.proofs.Members.{member-performs, own-held}
use Rattle.turn_laws.proofs.Names.{number-failed, number-passed, place-ours}
use Rattle.turn_laws.proofs.Uses.{Counts, number_at, used-alone}
use Rattle.turn_laws.specs.Places.{Ours, Place, Theirs, place_of}
use Rattle.turn_laws.specs.Turns.{answered, number_taken}
use Rattle.turn_rules.proofs.Refusals.{stop-own}
use Rattle.turn_rules.specs.Deliveries.{PeerTakes}
use Rattle.turn_rules.specs.Draws.{counter_name, reach_of, refusal_of_stop}
use Rattle.turn_rules.specs.Ends.{Member, Peer, end_of_party, is_refused_by_run, own, performer_of}
use Rattle.turn_rules.specs.CountersOf.{is_of_spir}
use Rattle.turn_rules.specs.IkeState.{taken_id}
use Rattle.turn_rules.specs.Held.{Held, accepted, held_by, received, used, used_in, window_by}
use Rattle.turn_rules.specs.MemberPackets.{DropsQuietly, IsReceived, MemberReceives, TakesPacket, inbound_of}
use Rattle.turn_rules.specs.Packets.{Drops, IsVerdictOf, OpensEsp}
use Rattle.turn_rules.specs.Peers.{record_entered}
use Rattle.turn_rules.specs.Safe.{Packet, accepted_as, taken_as}
use Rattle.turn_rules.specs.States.{told_state}
use Rattle.turn_rules.specs.Slots.{Slot, SlotReceives, SlotTakes, first_slot, peer_counter, receives_at, slot_inbound, slots_by}
use Rattle.turn_rules.specs.Steps.{IsQuiet}
use Rattle.turn_rules.specs.Tasks as task
use Rattle.turn_rules.specs.Tasks.{member_task, peer_task}
use Rattle.turn_rules.proofs.Ties.{used-receiving}
use Rattle.ha_base.specs.declared.counter_names.End.TheVariants as end

-- an event that brings a packet to an end
pub record Brings (event : Event) (to : Party) : Type 0 where
  pub performs : (verdict : Verdict) → performer_of event verdict ≡ Some (end_of_party to)
  pub receives : (spir : ℕ) (verdict : Verdict) → received spir event verdict ≡ accepted spir verdict
  pub answers : (spir : ℕ) (verdict : Verdict) → answered spir event verdict ≡ taken_id spir verdict
  pub member_receives : member_task event ≡ task.Receive
  pub peer_receives : peer_task event ≡ task.Receive
  pub no_entry : (verdict : Verdict) → record_entered event verdict ≡ None

-- no number is used where nothing is sealed and said
module _ (event : Event) (to : Party) (brings : Brings event to) where
  pub uses_none : (spir : ℕ) (c : Counter) (step : Step) → IsQuiet step → used spir c event step ≡ None
  uses_none spir c step quiet = ap (λ asked. used_in end.Cluster spir c asked step) brings.member_receives ∙ used-receiving end.Cluster spir c step quiet

  spends_none : (spir : ℕ) (c : Counter) (step : Step) → IsQuiet step → used_in end.Peer spir c (peer_task event) step ≡ None
  spends_none spir c step quiet = ap (λ asked. used_in end.Peer spir c asked step) brings.peer_receives ∙ used-receiving end.Peer spir c step quiet

-- an answer that is no packet accepted
dropped-rests : (step : Step) (why : EspDrop) (answer : EspVerdict) (after : List ℕ) → IsQuiet step → answer ≡ esp.Dropped why → IsVerdictOf answer after step.verdict → Rests step
dropped-rests step why answer after quiet is worded =
    let said : step.verdict ≡ out.DroppedEsp why = subst (λ a. IsVerdictOf a after step.verdict) is worded in
    quiet-rests step (subst (λ v. IsIdle v) (sym said) tt) quiet

-- a packet that was accepted
record Accepts (name : CounterName) (n : ℕ) (verdict : Verdict) : Type 0 where
  pub next_header : ℕ
  pub payload : WithRoom
  pub said : verdict ≡ out.Accepted name n next_header payload

accepts : (name : CounterName) (packet : EspOpened) (answer : EspVerdict) (after : List ℕ) (verdict : Verdict) → answer ≡ esp.Accepted name packet → IsVerdictOf answer after verdict → Accepts name packet.number verdict
accepts name packet answer after verdict is worded =
    let so : IsVerdictOf (esp.Accepted name packet) after verdict = subst (λ a. IsVerdictOf a after verdict) is worded in
    record { next_header = packet.next_header; payload = so.0; said = so.2 }

accepts-spends : (event : Event) (name : CounterName) (place : Place) (n : ℕ) (step : Step) → place_of name ≡ place → IsQuiet step → Accepts name n step.verdict → Spends place n event step
accepts-spends event name place n step named quiet a = record {
  served = quiet.served;
  untaken = ap taken_as a.said;
  uses_it = used-alone place n (Uses place n) (rest_of event step) (Counts refl) (let said : _ = a.said in let none : _ = quiet.seals in rw (said, none, named));
  of_packet = λ packet is. of_packet packet (same_Some (record { name = name; number = n }) packet (ap accepted_as (sym a.said) ∙ is));
}
  where
    of_packet : (packet : Packet) → record { name = name; number = n } ≡ packet → (place_of packet.name ≡ place) × (packet.number ≡ n)
    of_packet packet same = (sym (ap (λ (p : Packet). place_of p.name) same) ∙ named, sym (ap (λ (p : Packet). p.number) same))

-- the number of the association that was accepted
accepted-number : (sa : Record) (name : CounterName) (n : ℕ) (verdict : Verdict) → name.origin ≡ sa.origin → Accepts name n verdict → (other : ℕ) → accepted other verdict ≡ (if (sa.spir == other) && true then Some n else None)
accepted-number sa name n verdict same a other =
    ap (accepted other) a.said
    ∙ (ap (λ o. if is_of_spir other o then Some n else None) (ap spir_of_origin same ∙ sa.origin_is_own)
    ∙ number-passed (sa.spir == other) n)

module _ (event : Event) (to : Party) (brings : Brings event to) (sa : Record) (n : ℕ) (step : Step) (quiet : IsQuiet step) where
  -- by a member, and by the peer
  accepted-told : Accepts (counter_name sa counter.EspIn) n step.verdict → (other : ℕ) (d : Counter) → number_taken other d event step ≡ number_at (Ours other d) (Ours sa.spir counter.EspIn) n
  accepted-told a other counter.EspOut = uses_none event to brings other counter.EspOut step quiet ∙ number-failed (sa.spir == other) n
  accepted-told a other counter.Iv = uses_none event to brings other counter.Iv step quiet ∙ number-failed (sa.spir == other) n
  accepted-told a other counter.Ask = uses_none event to brings other counter.Ask step quiet ∙ number-failed (sa.spir == other) n
  accepted-told a other counter.Answer = brings.answers other step.verdict ∙ ap (taken_id other) a.said ∙ number-failed (sa.spir == other) n
  accepted-told a other counter.EspIn = brings.receives other step.verdict ∙ accepted-number sa (counter_name sa counter.EspIn) n step.verdict refl a other

  accepted_theirs-told : Accepts (peer_counter sa counter.EspIn) n step.verdict → (other : ℕ) (d : Counter) → number_theirs other d event step ≡ number_at (Ours other d) (Ours sa.spir counter.EspIn) n
  accepted_theirs-told a other counter.EspOut = spends_none event to brings other counter.EspOut step quiet ∙ number-failed (sa.spir == other) n
  accepted_theirs-told a other counter.Iv = spends_none event to brings other counter.Iv step quiet ∙ number-failed (sa.spir == other) n
  accepted_theirs-told a other counter.Ask = spends_none event to brings other counter.Ask step quiet ∙ number-failed (sa.spir == other) n
  accepted_theirs-told a other counter.Answer = brings.answers other step.verdict ∙ ap (taken_id other) a.said ∙ number-failed (sa.spir == other) n
  accepted_theirs-told a other counter.EspIn = brings.receives other step.verdict ∙ accepted-number sa (peer_counter sa counter.EspIn) n step.verdict refl a other

-- a member receives a packet, by what it holds
module _ (boxes : ℕ) (past : List Turn) (own_spir : (member spir : ℕ) (held : Held) → held_by (window_by past) (own (Member member) past) spir ≡ Some held → held.sa.spir ≡ spir)
    (event : Event) (calls : List Call) (step : Step) (quiet : IsQuiet step) (answer : EspVerdict) (after : List ℕ) (worded : IsVerdictOf answer after step.verdict) where
  module _ (member : ℕ) (brings : Brings event (parties.Member member)) (held : Held) (is_held : held_by (window_by past) (own (Member member) past) held.sa.spir ≡ Some held) (packet : EspOpened) where
    abbrev Stopped : Stop → List Call → Type 0
    Stopped why rest = (rest ≡ []) × (answer ≡ esp.Refused (refusal_of_stop why))

    abbrev Took : ℕ → List Call → Type 0
    Took high rest = (rest ≡ []) × (answer ≡ esp.Accepted (counter_name held.sa counter.EspIn) packet)

    refused : (why : Stop) → answer ≡ esp.Refused (refusal_of_stop why) → step.verdict ≡ out.Refused (refusal_of_stop why)
    refused why is = subst (λ a. IsVerdictOf a after step.verdict) is worded

    took : answer ≡ esp.Accepted (counter_name held.sa counter.EspIn) packet → Accepts (counter_name held.sa counter.EspIn) packet.number step.verdict
    took is = accepts (counter_name held.sa counter.EspIn) packet answer after step.verdict is worded

    take-not_run : TakesPacket held (Ok packet) calls answer → is_refused_by_run step.verdict ≡ false
    take-not_run takes = ready-calls (λ calls. is_refused_by_run step.verdict ≡ false) (reach_of held counter.EspIn) packet.number Stopped Took
        (λ call rest asked is. is)
        (λ why rest s. ap is_refused_by_run (refused why s.1) ∙ stop-own why)
        (λ high rest s. ap is_refused_by_run (took s.1).said)
        calls takes

    take-uses : answer ≡ esp.Accepted (counter_name held.sa counter.EspIn) packet → UsesOne held.sa.spir counter.EspIn packet.number event step
    take-uses is = record {
      spends = accepts-spends event (counter_name held.sa counter.EspIn) (Ours held.sa.spir counter.EspIn) packet.number step (place-ours held.sa counter.EspIn) quiet (took is);
      told = accepted-told event (parties.Member member) brings held.sa packet.number step quiet (took is);
    }

    takes-deed : (octets : List ℕ) → OpensEsp (inbound_of held) octets (Ok packet) after → TakesPacket held (Ok packet) calls answer → Deed past event calls step
    takes-deed octets opens takes = one-used (record {
      member = member;
      held = held;
      c = counter.EspIn;
      number = packet.number;
      by_it = member-performs event step.verdict member (brings.performs step.verdict) (take-not_run takes);
      is_held = is_held;
      is_open = opens.1.fresh;
      ready = ready-as (reach_of held counter.EspIn) packet.number Stopped (λ why rest. (rest ≡ []) × Rests step) Took (λ high rest. (rest ≡ []) × UsesOne held.sa.spir counter.EspIn packet.number event step)
          (λ why rest s. (s.0, quiet-rests step (subst (λ v. IsIdle v) (sym (refused why s.1)) tt) quiet))
          (λ high rest s. (s.0, take-uses s.1))
          calls takes;
    })

  module _ (member : ℕ) (brings : Brings event (parties.Member member)) (octets : List ℕ) where
    opened-deed : (held : Held) → held_by (window_by past) (own (Member member) past) held.sa.spir ≡ Some held → (opened : Result EspOpened EspDrop) → OpensEsp (inbound_of held) octets opened after → TakesPacket held opened calls answer → Deed past event calls step
    opened-deed held is_held (Err why) opens takes = Rested takes.0 (dropped-rests step why answer after quiet takes.1 worded) (brings.no_entry step.verdict)
    opened-deed held is_held (Ok packet) opens takes = takes-deed member brings held is_held packet octets opens takes

    drops-deed : (why : EspDrop) → DropsQuietly why octets calls answer after → Deed past event calls step
    drops-deed why drops = Rested drops.0 (dropped-rests step why answer after quiet drops.1.said worded) (brings.no_entry step.verdict)

    received-deed : IsReceived ((told_state boxes past).members member).held octets calls answer after → Deed past event calls step
    received-deed r =
        let is_held : held_by (window_by past) (own (Member member) past) r.spir ≡ Some r.receiver = own-held boxes past member r.spir r.receiver r.is_receiver.is_held in
        let same : r.receiver.sa.spir ≡ r.spir = own_spir member r.spir r.receiver is_held in
        opened-deed r.receiver (subst (λ n. held_by (window_by past) (own (Member member) past) n ≡ Some r.receiver) (sym same) is_held) r.receives.opened r.receives.opens r.receives.takes

    pub member_takes-deed : MemberReceives ((told_state boxes past).members member).held octets calls answer after → Deed past event calls step
    member_takes-deed receives = ⊎_elim
        (λ short. drops-deed drop.Short (receives.short short))
        (λ long. ⊎_elim (λ nowhere. drops-deed drop.WrongSpi nowhere.1) received-deed (receives.long long))
        (cases_lt (length octets) 34)

-- the peer receives a packet, by its associations
module _ (past : List Turn) (event : Event) (brings : Brings event parties.Peer) (octets : List ℕ) (calls : List Call) (step : Step) (takes : PeerTakes (slots_by (window_by past) (own Peer past)) octets calls step) where
  slot_opened-deed : (slot : Slot) → first_slot (receives_at (spi_of octets)) (slots_by (window_by past) (own Peer past)) ≡ Some slot → (opened : Result EspOpened EspDrop) → OpensEsp (slot_inbound slot) octets opened takes.after → SlotTakes slot opened takes.answer → Deed past event calls step
  slot_opened-deed slot is_first (Err why) opens slot_takes = Rested takes.no_calls (dropped-rests step why takes.answer takes.after takes.quiet slot_takes takes.worded) (brings.no_entry step.verdict)
  slot_opened-deed slot is_first (Ok packet) opens slot_takes =
      let took : Accepts (peer_counter slot.sa counter.EspIn) packet.number step.verdict = accepts (peer_counter slot.sa counter.EspIn) packet takes.answer takes.after step.verdict slot_takes takes.worded in
      one-peer-used (record {
        test = receives_at (spi_of octets);
        slot = slot;
        c = counter.EspIn;
        number = packet.number;
        by_it = let said : _ = took.said in rw said (brings.performs (out.Accepted (peer_counter slot.sa counter.EspIn) packet.number took.next_header took.payload));
        is_first = is_first;
        is_open = (opens.1.means.below_end, opens.1.fresh);
        no_calls = takes.no_calls;
        not_ours = λ spir c. uses_none event parties.Peer brings spir c step takes.quiet;
        told = accepted_theirs-told event parties.Peer brings slot.sa packet.number step takes.quiet took;
        no_entry = brings.no_entry step.verdict;
        spends = accepts-spends event (peer_counter slot.sa counter.EspIn) (Theirs (peer_counter slot.sa counter.EspIn)) packet.number step refl takes.quiet took;
      })

  peer_drops-deed : (why : EspDrop) → Drops why octets takes.answer takes.after → Deed past event calls step
  peer_drops-deed why drops = Rested takes.no_calls (dropped-rests step why takes.answer takes.after takes.quiet drops.said takes.worded) (brings.no_entry step.verdict)

  pub peer_takes-deed : Deed past event calls step
  peer_takes-deed = ⊎_elim
      (λ short. peer_drops-deed drop.Short (takes.receives.short short))
      (λ long. by_slot (first_slot (receives_at (spi_of octets)) (slots_by (window_by past) (own Peer past))) refl (takes.receives.long long))
      (cases_lt (length octets) 34)
    where
      by_slot : (x : Option Slot) → first_slot (receives_at (spi_of octets)) (slots_by (window_by past) (own Peer past)) ≡ x
          → MatchOption x
          (Drops drop.WrongSpi octets takes.answer takes.after)
          (λ slot. SlotReceives slot octets takes.answer takes.after)
          → Deed past event calls step
      by_slot None e receives = peer_drops-deed drop.WrongSpi receives
      by_slot (Some slot) e receives = slot_opened-deed slot e receives.opened receives.opens receives.takes
