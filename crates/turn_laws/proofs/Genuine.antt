-- A covered genuine packet that comes to an end is accepted at first delivery.
use Rattle.std.proofs.Common.{◌≡◌, ℕ, ◌^◌, ◌<◌, ◌&&◌, Bool, true, false, Option, Some, None, MatchOption, Result, Ok, List, [], ◌∷◌, length, ⊎_elim, refl, ap, sym, ◌∙◌, subst}
use Rattle.std.proofs.lemmas.Bool.{cases_lt, le-leb, lt-leb, lt-ltb}
use Rattle.std.proofs.lemmas.Option.{same_Some}
use Rattle.std.specs.Prelude.{nat_le, nat_lt}
use Rattle.events.specs.declared.verdict.Refusal.TheVariants as refusal
use Rattle.esp_packets.specs.Laws.{Accepts, SealedPacketsOpen}
use Rattle.esp_packets.specs.Packet.{spi_of}
use Rattle.events.specs.declared.event.Event.{Event}
use Rattle.events.specs.declared.event.Event.TheVariants as event
use Rattle.events.specs.declared.event.Party.{Party}
use Rattle.events.specs.declared.event.Party.TheVariants as parties
use Rattle.events.specs.declared.turn.Medium.TheVariants as medium
use Rattle.events.specs.declared.turn.Step.{Step}
use Rattle.events.specs.declared.turn.Turn.{Turn}
use Rattle.events.specs.declared.verdict.EspVerdict.{EspVerdict}
use Rattle.events.specs.declared.verdict.EspVerdict.TheVariants as esp
use Rattle.events.specs.declared.verdict.Refusal.{Refusal}
use Rattle.events.specs.declared.verdict.Verdict.{Verdict}
use Rattle.events.specs.declared.verdict.Verdict.TheVariants as out
use Rattle.ha_base.specs.declared.limits.TheConstants.{MAX_DATAGRAMS}
use Rattle.ha_base.specs.declared.counter_names.CounterName.{CounterName}
use Rattle.ha_base.specs.declared.esp_outcomes.EspDrop.{EspDrop}
use Rattle.ha_base.specs.declared.esp_outcomes.EspDrop.TheVariants as drop
use Rattle.ha_base.specs.declared.esp_outcomes.EspOpened.{EspOpened}
use Rattle.ha_base.specs.declared.outside.Moment.{Moment}
use Rattle.keeper_book.specs.declared.calls.Call.{Call}
use Rattle.keeper_book.specs.declared.counters.Counter.TheVariants as counter
use Rattle.turn_rules.proofs.GenuinePackets.{genuine-long, genuine-opens, ready-goes, same_receiver}
use Rattle.turn_rules.proofs.SlotTies.{DoesTold}
use Rattle.turn_rules.proofs.StateLaws.{does-told}
use Rattle.turn_rules.proofs.KeySizes.{sized_to_cluster, sized_to_peer}
use Rattle.turn_rules.specs.Datagrams.{PlainDatagram, arrives, datagrams_of, delivery_of}
use Rattle.turn_rules.specs.Deliveries.{MemberTakes, PeerTakes}
use Rattle.turn_rules.specs.Draws.{counter_name}
use Rattle.turn_rules.specs.Ends.{Member, Peer, Performer, end_of_party, own, receiver_of}
use Rattle.turn_rules.specs.Fits.{Does, Performs, Receives, Refuses, has_joined, is_of_datagrams, member_of, named_in, refused_absent, refused_arrival, refused_besides, refused_where, run_refusal}
use Rattle.turn_rules.specs.Genuine.{AreAccepted, Came, IsAcceptedAs, IsAcknowledged, IsGenuine, IsUp, MemberAccepts, PeerAccepts}
use Rattle.turn_rules.specs.Held.{Held, config_by, held_by, window_by}
use Rattle.turn_rules.specs.Local.{Explained}
use Rattle.turn_rules.specs.MemberPackets.{IsReceiver, ReceivesPacket, TakesPacket, inbound_of}
use Rattle.turn_rules.specs.Packets.{Drops, IsVerdictOf}
use Rattle.turn_rules.specs.MemberStates.{member_by, member_unless}
use Rattle.turn_rules.specs.States.{RunState, joins, told_state}
use Rattle.turn_rules.specs.Slots.{Slot, SlotReceives, SlotTakes, first_slot, peer_counter, receives_at, slot_inbound, slots_by}

-- what a packet that was opened is accepted as
worded-accepted : (name : CounterName) (number : ℕ) (payload : List ℕ) (opened : Result EspOpened EspDrop) (after : List ℕ) (answer : EspVerdict) (verdict : Verdict) → (accepts : Accepts number payload 4 opened after)
    → answer ≡ esp.Accepted name accepts.packet → IsVerdictOf answer after verdict → IsAcceptedAs name number payload verdict
worded-accepted name number payload opened after answer verdict accepts said worded =
    let is : IsVerdictOf (esp.Accepted name accepts.packet) after verdict = subst (λ a. IsVerdictOf a after verdict) said worded in
    record {
      given = is.0;
      said = is.2 ∙ (λ i. out.Accepted name (accepts.number_is i) (accepts.next_header_is i) is.0);
      same = is.1 ∙ accepts.payload_is;
    }

module _ (law : SealedPacketsOpen) (number : ℕ) (payload octets : List ℕ) where
  -- a member accepts what it opened
  member-accepts : (held : Held) (calls : List Call) (step : Step) (answer : EspVerdict) (after : List ℕ) → IsGenuine (inbound_of held) number payload octets → IsAcknowledged held number calls
      → ReceivesPacket held octets calls answer after → IsVerdictOf answer after step.verdict → IsAcceptedAs (counter_name held.sa counter.EspIn) number payload step.verdict
  member-accepts held calls step answer after genuine allowed receives worded =
      let accepts : Accepts number payload 4 receives.opened after = genuine-opens law (inbound_of held) (sized_to_cluster held.sa.size held.sa.keys held.sa.child held.sa.key_lengths) number payload octets genuine receives.opened after receives.opens in
      let takes : TakesPacket held (Ok accepts.packet) calls answer = subst (λ opened. TakesPacket held opened calls answer) accepts.accepted receives.takes in
      let below : accepts.packet.number < 2 ^ 63 = subst (λ n. n < 2 ^ 63) (sym accepts.number_is) genuine.covered.below_end in
      let mine : IsAcknowledged held accepts.packet.number calls = subst (λ n. IsAcknowledged held n calls) (sym accepts.number_is) allowed in
      worded-accepted (counter_name held.sa counter.EspIn) number payload receives.opened after answer step.verdict accepts
      (ready-goes held accepts.packet.number calls below (λ high rest goes. goes.1) mine takes) worded

  member-takes : (held_of : ℕ → Option Held) (spir : ℕ) (held : Held) (calls : List Call) (step : Step) → IsReceiver held_of (spi_of octets) spir held → IsGenuine (inbound_of held) number payload octets
      → IsAcknowledged held number calls → MemberTakes held_of octets calls step → IsAcceptedAs (counter_name held.sa counter.EspIn) number payload step.verdict
  member-takes held_of spir held calls step is genuine allowed takes = ⊎_elim
      (λ short. absurd (genuine-long law (inbound_of held) (sized_to_cluster held.sa.size held.sa.keys held.sa.child held.sa.key_lengths) number payload octets genuine short))
      (λ long. ⊎_elim
      (λ none. absurd (none.0 spir held is.is_held is.receives))
      (λ got. member-accepts held calls step takes.answer takes.after genuine allowed
      (subst (λ g. ReceivesPacket g octets calls takes.answer takes.after) (same_receiver held_of (spi_of octets) got.spir spir got.receiver held got.is_receiver is) got.receives) takes.worded)
      (takes.receives.long long))
      (cases_lt (length octets) 34)

  -- the peer accepts what it opened
  slot-accepts : (slot : Slot) (step : Step) (answer : EspVerdict) (after : List ℕ) → IsGenuine (slot_inbound slot) number payload octets → SlotReceives slot octets answer after
      → IsVerdictOf answer after step.verdict → IsAcceptedAs (peer_counter slot.sa counter.EspIn) number payload step.verdict
  slot-accepts slot step answer after genuine receives worded =
      let accepts : Accepts number payload 4 receives.opened after = genuine-opens law (slot_inbound slot) (sized_to_peer slot.sa.size slot.sa.keys slot.sa.child slot.sa.key_lengths) number payload octets genuine receives.opened after receives.opens in
      let takes : SlotTakes slot (Ok accepts.packet) answer = subst (λ opened. SlotTakes slot opened answer) accepts.accepted receives.takes in
      worded-accepted (peer_counter slot.sa counter.EspIn) number payload receives.opened after answer step.verdict accepts takes worded

  peer-takes : (slots : List Slot) (slot : Slot) (calls : List Call) (step : Step) → first_slot (receives_at (spi_of octets)) slots ≡ Some slot → IsGenuine (slot_inbound slot) number payload octets
      → PeerTakes slots octets calls step → IsAcceptedAs (peer_counter slot.sa counter.EspIn) number payload step.verdict
  peer-takes slots slot calls step is genuine takes = ⊎_elim
      (λ short. absurd (genuine-long law (slot_inbound slot) (sized_to_peer slot.sa.size slot.sa.keys slot.sa.child slot.sa.key_lengths) number payload octets genuine short))
      (λ long.
      slot-accepts slot step takes.answer takes.after genuine
      (subst (λ x. MatchOption x (Drops drop.WrongSpi octets takes.answer takes.after) (λ slot. SlotReceives slot octets takes.answer takes.after)) is (takes.receives.long long)) takes.worded)
      (cases_lt (length octets) 34)

-- an end is there: the peer always, and a member that joined and did not end
abbrev IsThere : RunState → Party → Type 0
IsThere state parties.Peer = Unit {0}
IsThere state (parties.Member member) = (has_joined member state ≡ true) × (state.ended member ≡ false)

up-there : (boxes : ℕ) (past : List Turn) (to : Party) → IsUp past (end_of_party to) → IsThere (told_state boxes past) to
up-there boxes past parties.Peer up = tt
up-there boxes past (parties.Member member) up =
    let some : nat_lt 0 member ≡ true = lt-ltb 0 member up.0 in
    let few : nat_le member (joins past) ≡ true = le-leb member (joins past) up.1 in
    (rw (some, few), up.2)

absent-none : (state : RunState) (to : Party) → IsThere state to → refused_absent state (member_of to) None ≡ None
absent-none state parties.Peer here = refl
absent-none state (parties.Member member) here = let joined : _ = here.0 in let stays : _ = here.1 in rw (joined, stays)

-- the run refuses no event that names an end that is there, and besides gives no reason, while it has room
unrefused : (state : RunState) (gives full : Bool) (named member : Option ℕ) (besides : Option Refusal) → full ≡ false → named ≡ member → besides ≡ None → refused_absent state member None ≡ None
    → refused_where (gives && full) refusal.DatagramsFull (refused_absent state named besides) ≡ None
unrefused state gives full named member besides room same none here =
    go gives ∙ (ap (λ m. refused_absent state m besides) same ∙ (ap (refused_absent state member) none ∙ here))
  where
    go : (gives : Bool) → refused_where (gives && full) refusal.DatagramsFull (refused_absent state named besides) ≡ refused_absent state named besides
    go true = ap (λ b. refused_where b refusal.DatagramsFull (refused_absent state named besides)) room
    go false = refl

abbrev ReceivedBy : RunState → Moment → Performer → PlainDatagram → List Call → Step → Type 0
ReceivedBy state now end x calls step = (to : Party) × (Some (end_of_party to) ≡ Some end) × IsThere state to × Receives state now to (Ok x) calls step

module _ (boxes : ℕ) (past : List Turn) (end : Performer) (octets : List ℕ) (now : Moment) (calls : List Call) (step : Step) (up : IsUp past end) (room : length (datagrams_of past) < MAX_DATAGRAMS) where
  abbrev x : PlainDatagram
  x = record { medium = medium.Esp; octets = octets }

  abbrev state : RunState
  state = told_state boxes past

  -- what a delivery brings, its end receives
  delivered : (at : Event) (to : Party) → Some (end_of_party to) ≡ Some end → named_in at ≡ member_of to → refused_besides state at ≡ refused_arrival (arrives (datagrams_of past) at)
      → (Performs state now at calls step → Receives state now to (arrives (datagrams_of past) at) calls step)
      → arrives (datagrams_of past) at ≡ Ok x → Does state now at calls step → ReceivedBy state now end x calls step
  delivered at to by named besides performs arrived does =
      let here : IsThere state to = up-there boxes past to (subst (λ e. IsUp past e) (sym (same_Some (end_of_party to) end by)) up) in
      let none : run_refusal state at ≡ None = unrefused state (is_of_datagrams at) (nat_le MAX_DATAGRAMS (length (datagrams_of past))) (named_in at) (member_of to) (refused_besides state at)
      (lt-leb MAX_DATAGRAMS (length (datagrams_of past)) room) named (besides ∙ ap refused_arrival arrived) (absent-none state to here) in
      let goes : Performs state now at calls step = subst (λ r. MatchOption r (Performs state now at calls step) (λ why. Refuses why calls step)) none does in
      (to, by, here, subst (λ found. Receives state now to found calls step) arrived (performs goes))

  pub received_by : (at : Event) → receiver_of (delivery_of at) ≡ Some end → arrives (datagrams_of past) at ≡ Ok x → Does state now at calls step → ReceivedBy state now end x calls step
  received_by (event.Deliver which to) by arrived does = delivered (event.Deliver which to) to by refl refl (λ p. p) arrived does
  received_by (event.Alter which to place octet) by arrived does = delivered (event.Alter which to place octet) to by refl refl (λ p. p) arrived does
  received_by (event.Cut which to keep) by arrived does = delivered (event.Cut which to keep) to by refl refl (λ p. p) arrived does
  received_by (event.Inject to medium octets) by arrived does = delivered (event.Inject to medium octets) to by refl refl (λ p. p) arrived does
  received_by at by arrived does = absurd (cc)

-- octets that came to an end are received by it
came-received : (boxes : ℕ) (past : List Turn) (turn : Turn) (end : Performer) (octets : List ℕ) → DoesTold boxes past turn → Came past turn end octets → ReceivedBy (told_state boxes past) turn.moment end (record { medium = medium.Esp; octets = octets }) turn.calls turn.step
came-received boxes past turn end octets does came = received_by boxes past end octets turn.moment turn.calls turn.step came.up came.room turn.event came.addressed came.arrived does

module _ (law : SealedPacketsOpen) (boxes : ℕ) (past : List Turn) (turn : Turn) (does : DoesTold boxes past turn) where
  -- what a member that is there holds is what its own turns say
  abbrev held_of : ℕ → ℕ → Option Held
  held_of member = held_by (window_by past) (own (Member member) past)

  pub member-accepts-it : MemberAccepts past turn
  member-accepts-it member spir number held payload octets came is genuine allowed = by_party (came-received boxes past turn (Member member) octets does came)
    where
      by_party : ReceivedBy (told_state boxes past) turn.moment (Member member) (record { medium = medium.Esp; octets = octets }) turn.calls turn.step → IsAcceptedAs (counter_name held.sa counter.EspIn) number payload turn.step.verdict
      by_party (parties.Peer, by, here, does) = absurd (cc)
      by_party (parties.Member other, by, here, does) =
          let same : other ≡ member = cc in
          member-takes law number payload octets (held_of member) spir held turn.calls turn.step is genuine allowed
          (subst (λ k. MemberTakes (held_of k) octets turn.calls turn.step) same
          (subst (λ b. MemberTakes (member_unless b (member_by (config_by past) (own (Member other) past))).held octets turn.calls turn.step) here.1 does))

  pub peer-accepts-it : PeerAccepts past turn
  peer-accepts-it number slot payload octets came is genuine = by_party (came-received boxes past turn Peer octets does came)
    where
      by_party : ReceivedBy (told_state boxes past) turn.moment Peer (record { medium = medium.Esp; octets = octets }) turn.calls turn.step → IsAcceptedAs (peer_counter slot.sa counter.EspIn) number payload turn.step.verdict
      by_party (parties.Peer, by, here, does) = peer-takes law number payload octets (slots_by (window_by past) (own Peer past)) slot turn.calls turn.step is genuine does
      by_party (parties.Member other, by, here, does) = absurd (cc)

-- where each turn is explained, covered genuine packets are accepted
pub are-accepted : SealedPacketsOpen → (boxes : ℕ) (past : List Turn) → Explained boxes past → AreAccepted past
are-accepted law boxes [] local = tt
are-accepted law boxes (turn ∷ past) local = (
  member-accepts-it law boxes past turn (does-told boxes past turn local.0 local.1),
  peer-accepts-it law boxes past turn (does-told boxes past turn local.0 local.1),
  are-accepted law boxes past local.1,
)
