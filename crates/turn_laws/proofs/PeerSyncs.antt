-- What a synchronisation that the peer accepts leaves it.
use Rattle.std.proofs.Common.{◌≡◌, ℕ, zero, suc, ◌≤◌, max, Bool, true, false, Option, Some, None, option_to_list, List, [], ◌∷◌, ◌++◌, map, refl, ap, sym, ◌∙◌, subst, arith, if◌then◌else◌}
use Rattle.std.proofs.lemmas.Bool.{eq-eqb, eqb-true}
use Rattle.std.proofs.lemmas.Option.{same_Some}
use Rattle.std.specs.List.{AllByRecursion}
use Rattle.std.specs.Option.{option_map}
use Rattle.events.specs.declared.event.Party.TheVariants as parties
use Rattle.events.specs.declared.turn.Step.{Step}
use Rattle.events.specs.declared.turn.Turn.{Turn}
use Rattle.events.specs.declared.verdict.Verdict.{Verdict}
use Rattle.events.specs.declared.verdict.Verdict.TheVariants as out
use Rattle.ha_base.specs.declared.counter_names.CounterName.{CounterName}
use Rattle.ike_window.specs.Kept.{KeptMessage, message_ids_of}
use Rattle.ike_window.specs.Windows.{ResponseWindow}
use Rattle.keeper_book.specs.Records.{spir_of_origin}
use Rattle.keeper_book.specs.declared.counters.Counter.TheVariants as counter
use Rattle.keeper_book.specs.declared.records.Record.{Record}
use Rattle.sync_exchange.specs.Counters.{next_after, rise_of}
use Rattle.sync_exchange.specs.declared.peer.Accepted.{Accepted}
use Rattle.sync_exchange.specs.declared.replay_counter.TheConstants.{DELTA_OCTETS}
use Rattle.turn_laws.proofs.Lists.{all-append}
use Rattle.turn_laws.proofs.Opened.{SameBySpir, distinct-same, slot-told}
use Rattle.turn_laws.proofs.Receiving.{Brings}
use Rattle.turn_laws.proofs.SyncMessages.{AcceptedBy}
use Rattle.turn_laws.proofs.SyncTurns.{Accepted_here, Announced, Arrives, Other, SyncTurn, Taken_here, does-sync}
use Rattle.turn_laws.proofs.Theirs.{not-both}
use Rattle.turn_laws.proofs.Members.{is_end-true}
use Rattle.turn_laws.specs.Synchronising.{PeerHolds, PeerSynchronised, TakesGreater, is_association}
use Rattle.turn_rules.proofs.NoSynchronisation.{is_of_sync}
use Rattle.turn_rules.proofs.SlotTies.{DoesTold, first-has, first-passes, records-slots_by, slots-other, slots-own}
use Rattle.turn_rules.proofs.StateLaws.{associations-apart, does-told}
use Rattle.turn_rules.specs.CountersOf.{is_counter_of, is_of_spir}
use Rattle.turn_rules.specs.Ends.{Member, Peer, is_by, is_end, is_refused_by_run, own, performer}
use Rattle.turn_rules.specs.Held.{window_by}
use Rattle.turn_rules.specs.IkeState.{answered_after, heard_in, outstanding_after, replied_in, request_in, response_in, with_taken}
use Rattle.turn_rules.specs.Local.{Explained}
use Rattle.turn_rules.specs.PeerMessages.{has_spis}
use Rattle.turn_rules.specs.Peers.{associations_by, entered_at_task}
use Rattle.turn_rules.specs.Slots.{Slot, after_heard, entered_slot, first_slot, higher_of, one_below, peer_counter, records, slot_after, slot_by, slots_by}
use Rattle.turn_rules.specs.States.{told_state}
use Rattle.turn_rules.specs.Synchronised.{Agreed, after_floor, after_jump, after_rise, agreed_in, ends_in, next_in}
use Rattle.turn_rules.specs.Tasks as task
use Rattle.ha_base.specs.declared.outside.Moment.{Moment}
use Rattle.turn_laws.proofs.Records.{lots-told}
use Rattle.turn_rules.specs.Tasks.{Task, peer_task}

-- ---- the slot of a responder's SPI

-- where one test finds a slot that passes another one, that one finds some slot
first-some : (test other : Slot → Bool) (slots : List Slot) (slot : Slot) → first_slot test slots ≡ Some slot → other slot ≡ true
    → (s : Slot) × (first_slot other slots ≡ Some s)
first-some test other [] slot is passes = absurd (cc)
first-some test other (s ∷ ss) slot is passes = by_other (λ found. first-some test other ss slot found passes) (other s) refl
  where
    Some_slot : List Slot → Type 0
    Some_slot slots = (x : Slot) × (first_slot other slots ≡ Some x)

    by_test : (first_slot test ss ≡ Some slot → Some_slot ss) → (b : Bool) → test s ≡ b → other s ≡ false → Some_slot ss
    by_test later true t fails =
        let same : s ≡ slot = same_Some s slot (ap (λ b. if b then Some s else first_slot test ss) (sym t) ∙ is) in
        let both : false ≡ true = sym fails ∙ (ap other same ∙ passes) in absurd (cc)
    by_test later false t fails = later (ap (λ b. if b then Some s else first_slot test ss) (sym t) ∙ is)

    by_other : (first_slot test ss ≡ Some slot → Some_slot ss) → (b : Bool) → other s ≡ b → Some_slot (s ∷ ss)
    by_other later true t = (s, ap (λ b. if b then Some s else first_slot other ss) t)
    by_other later false t =
        let more : (x : Slot) × (first_slot other ss ≡ Some x) = by_test later (test s) refl t in
        (more.0, ap (λ b. if b then Some s else first_slot other ss) t ∙ more.1)

-- two slots that are found for one association are the same
pub one-slot : (boxes : ℕ) (past : List Turn) → Explained boxes past → (test other : Slot → Bool) (slot s : Slot)
    → first_slot test (slots_by (window_by past) (own Peer past)) ≡ Some slot
    → first_slot other (slots_by (window_by past) (own Peer past)) ≡ Some s → slot.sa.spir ≡ s.sa.spir → slot ≡ s
one-slot boxes past local test other slot s is found same =
    let mine : List Turn = own Peer past in
    let size : ℕ = window_by past in
    let all : AllByRecursion (λ a. AllByRecursion (SameBySpir a) (records (slots_by size mine))) (records (slots_by size mine)) =
    subst (λ list. AllByRecursion (λ a. AllByRecursion (SameBySpir a) list) list) (sym (records-slots_by size mine))
    (distinct-same (associations_by mine) (associations-apart boxes past local)) in
    let sas : slot.sa ≡ s.sa =
    first-has (SameBySpir slot.sa) other (slots_by size mine) s
    (first-has (λ a. AllByRecursion (SameBySpir a) (records (slots_by size mine))) test (slots_by size mine) slot all is) found same in
    slot-told size mine test slot is ∙ (ap (slot_by size mine) sas ∙ sym (slot-told size mine other s found))

pub first-spir : (boxes : ℕ) (past : List Turn) → Explained boxes past → (test : Slot → Bool) (slot : Slot)
    → first_slot test (slots_by (window_by past) (own Peer past)) ≡ Some slot → PeerHolds past slot.sa.spir slot
first-spir boxes past local test slot is =
    let some : (s : Slot) × (first_slot (is_association slot.sa.spir) (slots_by (window_by past) (own Peer past)) ≡ Some s) =
    first-some test (is_association slot.sa.spir) (slots_by (window_by past) (own Peer past)) slot is (eq-eqb slot.sa.spir slot.sa.spir refl) in
    let spirs : some.0.sa.spir ≡ slot.sa.spir =
    eqb-true some.0.sa.spir slot.sa.spir (first-passes (is_association slot.sa.spir) (slots_by (window_by past) (own Peer past)) some.0 some.1) in
    some.1 ∙ ap Some (sym (one-slot boxes past local test (is_association slot.sa.spir) slot some.0 is some.1 (sym spirs)))

-- what the peer holds of an association after one more turn of its own
first-after : (spir : ℕ) (now : Moment) (asked : Task) (step : Step) (more slots : List Slot) (slot : Slot) → first_slot (is_association spir) slots ≡ Some slot
    → first_slot (is_association spir) (map (slot_after now asked step) slots ++ more) ≡ Some (slot_after now asked step slot)
first-after spir now asked step more [] slot is = absurd (cc)
first-after spir now asked step more (s ∷ ss) slot is = by_test (first-after spir now asked step more ss slot) (is_association spir s) refl
  where
    rest : Option Slot
    rest = first_slot (is_association spir) (map (slot_after now asked step) ss ++ more)

    by_test : (first_slot (is_association spir) ss ≡ Some slot → rest ≡ Some (slot_after now asked step slot)) → (b : Bool) → is_association spir s ≡ b
        → (if is_association spir s then Some (slot_after now asked step s) else rest) ≡ Some (slot_after now asked step slot)
    by_test later true t =
        ap (λ b. if b then Some (slot_after now asked step s) else rest) t
        ∙ ap (λ x. Some (slot_after now asked step x)) (same_Some s slot (ap (λ b. if b then Some s else first_slot (is_association spir) ss) (sym t) ∙ is))
    by_test later false t =
        ap (λ b. if b then Some (slot_after now asked step s) else rest) t
        ∙ later (ap (λ b. if b then Some s else first_slot (is_association spir) ss) (sym t) ∙ is)

pub holds-own : (boxes : ℕ) (past : List Turn) (turn : Turn) → DoesTold boxes past turn → is_by Peer turn ≡ true → (spir : ℕ) (slot : Slot)
    → PeerHolds past spir slot
    → PeerHolds (turn ∷ past) spir (slot_after turn.moment (peer_task turn.event) turn.step slot)
holds-own boxes past turn does mine spir slot is =
    ap (first_slot (is_association spir)) (slots-own boxes past turn does mine)
    ∙ first-after spir turn.moment (peer_task turn.event) turn.step (option_to_list
    (option_map (entered_slot (window_by past)) (entered_at_task (peer_task turn.event) turn.step.verdict)))
    (slots_by (window_by past) (own Peer past)) slot is

pub holds-other : (boxes : ℕ) (past : List Turn) (turn : Turn) → DoesTold boxes past turn → is_by Peer turn ≡ false → (spir : ℕ) (slot : Slot)
    → PeerHolds past spir slot → PeerHolds (turn ∷ past) spir slot
holds-other boxes past turn does other spir slot is = ap (first_slot (is_association spir)) (slots-other boxes past turn does other) ∙ is

-- ---- the peer knows of no less than its floor

abbrev is_synced : Verdict → Bool
is_synced (out.Synced name next floor) = true
is_synced verdict = false

other-unsynced : (verdict : Verdict) → is_of_sync verdict ≡ false → is_synced verdict ≡ false
other-unsynced (out.Synced name next floor) other = absurd (cc)
other-unsynced verdict other = refl

turn-unsynced : (boxes : ℕ) (past : List Turn) (turn : Turn) → performer turn ≡ Some Peer → SyncTurn (told_state boxes past) turn.event turn.calls turn.step
    → is_synced turn.step.verdict ≡ false
turn-unsynced boxes past turn by (Other other) = other-unsynced turn.step.verdict other
turn-unsynced boxes past turn by (Announced member spir held asks is_held sends) = ap is_synced sends.said
turn-unsynced boxes past turn by (Accepted_here octets brings arrived accepted) = ap is_synced accepted.accepts.said
turn-unsynced boxes past turn by (Taken_here member octets brings arrived taken) =
    let run : is_refused_by_run turn.step.verdict ≡ false = ap is_refused_by_run taken.says.said in
    let mine : performer turn ≡ Some (Member member) = rw run (brings.performs turn.step.verdict) in
    not-both member (performer turn) mine by

-- what the peer took on is known to it
agreed-heard : (spir : ℕ) (asked : Task) (verdict : Verdict) → is_synced verdict ≡ false → (agreed : Agreed) → agreed_in spir asked verdict ≡ Some agreed
    → heard_in spir asked verdict ≡ Some agreed.floor
agreed-heard spir task.Receive (out.SyncAccepted name p2 m2 delta unknown) peers agreed is = by_test (is_counter_of spir name) is
  where
    taken_on : Agreed
    taken_on = record { next = p2; floor = m2; delta = delta; ends_requests = true }

    by_test : (b : Bool) → (if b then Some taken_on else None) ≡ Some agreed → (if b then Some m2 else None) ≡ Some agreed.floor
    by_test true is = ap Some (ap (λ (a : Agreed). a.floor) (same_Some taken_on agreed is))
    by_test false is = absurd (cc)
agreed-heard spir task.Receive (out.Synced name next floor) peers agreed is = absurd (cc)
agreed-heard spir asked verdict peers agreed is = absurd (cc)

abbrev pub KnowsFloor : Slot → Type 0
KnowsFloor slot = slot.answered.floor ≤ next_after slot.highest

-- storing a response leaves the floor
pub taken-floor : (response : Option KeptMessage) (window : ResponseWindow) → (with_taken response window).floor ≡ window.floor
taken-floor None window = refl
taken-floor (Some response) window = refl

heard-more : (heard highest : Option ℕ) → next_after highest ≤ next_after (after_heard heard highest)
heard-more None highest = omega arith
heard-more (Some id) None = omega arith
heard-more (Some id) (Some before) = omega arith

heard-known : (id : ℕ) (highest : Option ℕ) (floor : ℕ) → floor ≤ next_after highest → max floor id ≤ next_after (higher_of id highest)
heard-known id None floor known = omega (arith, known)
heard-known id (Some before) floor known = omega (arith, known)

after-knows : (now : Moment) (asked : Task) (step : Step) → is_synced step.verdict ≡ false → (slot : Slot) → KnowsFloor slot → KnowsFloor (slot_after now asked step slot)
after-knows now asked step peers slot known = go (agreed_in slot.sa.spir asked step.verdict) refl
  where
    heard : Option ℕ
    heard = heard_in slot.sa.spir asked step.verdict

    response : Option KeptMessage
    response = response_in slot.sa.spir asked step

    go : (x : Option Agreed) → agreed_in slot.sa.spir asked step.verdict ≡ x
        → (answered_after (agreed_in slot.sa.spir asked step.verdict) response slot.answered).floor ≤ next_after (after_heard heard slot.highest)
    go None e =
        let same : (answered_after (agreed_in slot.sa.spir asked step.verdict) response slot.answered).floor ≡ slot.answered.floor =
        taken-floor response (after_floor (agreed_in slot.sa.spir asked step.verdict) slot.answered) ∙ ap (λ x. (after_floor x slot.answered).floor) e in
        let more : next_after slot.highest ≤ next_after (after_heard heard slot.highest) = heard-more heard slot.highest in
        omega (arith, same, more, known)
    go (Some agreed) e =
        let same : (answered_after (agreed_in slot.sa.spir asked step.verdict) response slot.answered).floor ≡ max slot.answered.floor agreed.floor =
        taken-floor response (after_floor (agreed_in slot.sa.spir asked step.verdict) slot.answered) ∙ ap (λ x. (after_floor x slot.answered).floor) e in
        let is : heard ≡ Some agreed.floor = agreed-heard slot.sa.spir asked step.verdict peers agreed e in
        let knows : max slot.answered.floor agreed.floor ≤ next_after (after_heard heard slot.highest) =
        subst (λ x. max slot.answered.floor agreed.floor ≤ next_after (after_heard x slot.highest)) (sym is)
        (heard-known agreed.floor slot.highest slot.answered.floor known) in
        omega (arith, same, knows)

entered-knows : (size : ℕ) (sa : Record) → KnowsFloor (entered_slot size sa)
entered-knows size sa = go sa.starts.ask
  where
    go : (start : ℕ) → start ≤ next_after (one_below start)
    go zero = omega arith
    go (suc n) = omega arith

all-after : (now : Moment) (asked : Task) (step : Step) → is_synced step.verdict ≡ false → (slots : List Slot) → AllByRecursion KnowsFloor slots
    → AllByRecursion KnowsFloor (map (slot_after now asked step) slots)
all-after now asked step peers [] all = tt
all-after now asked step peers (slot ∷ slots) all = (after-knows now asked step peers slot all.0, all-after now asked step peers slots all.1)

floors-known : (boxes : ℕ) (past : List Turn) → Explained boxes past → AllByRecursion KnowsFloor (slots_by (window_by past) (own Peer past))
floors-known boxes [] local = tt
floors-known boxes (turn ∷ past) local = by_test (floors-known boxes past local.1) (is_by Peer turn) refl
  where
    does : DoesTold boxes past turn
    does = does-told boxes past turn local.0 local.1

    entered : (x : Option Record) → AllByRecursion KnowsFloor (option_to_list (option_map (entered_slot (window_by past)) x))
    entered None = tt
    entered (Some sa) = (entered-knows (window_by past) sa, tt)

    by_test : AllByRecursion KnowsFloor (slots_by (window_by past) (own Peer past)) → (b : Bool) → is_by Peer turn ≡ b
        → AllByRecursion KnowsFloor (slots_by (window_by (turn ∷ past)) (own Peer (turn ∷ past)))
    by_test before true mine =
        let peers : is_synced turn.step.verdict ≡ false =
        turn-unsynced boxes past turn (is_end-true Peer (performer turn) mine)
        (does-sync (told_state boxes past) (lots-told boxes past local.1) turn.moment turn.calls turn.step turn.event does) in
        subst (λ slots. AllByRecursion KnowsFloor slots) (sym (slots-own boxes past turn does mine))
        (all-append KnowsFloor (map (slot_after turn.moment (peer_task turn.event) turn.step) (slots_by (window_by past) (own Peer past)))
        (option_to_list (option_map (entered_slot (window_by past)) (entered_at_task (peer_task turn.event) turn.step.verdict)))
        (all-after turn.moment (peer_task turn.event) turn.step peers (slots_by (window_by past) (own Peer past)) before)
        (entered (entered_at_task (peer_task turn.event) turn.step.verdict)))
    by_test before false other = subst (λ slots. AllByRecursion KnowsFloor slots) (sym (slots-other boxes past turn does other)) before

first-all : (P : Slot → Type 0) (test : Slot → Bool) (slots : List Slot) (slot : Slot) → AllByRecursion P slots → first_slot test slots ≡ Some slot → P slot
first-all P test [] slot all is = absurd (cc)
first-all P test (s ∷ ss) slot all is = by_test (first-all P test ss slot all.1) (test s) refl
  where
    by_test : (first_slot test ss ≡ Some slot → P slot) → (b : Bool) → test s ≡ b → P slot
    by_test more true t = subst P (same_Some s slot (ap (λ b. if b then Some s else first_slot test ss) (sym t) ∙ is)) all.0
    by_test more false t = more (ap (λ b. if b then Some s else first_slot test ss) (sym t) ∙ is)

-- ---- what an accepted synchronisation leaves

-- a counter of an association is one of it
pub its-counter : (sa : Record) (name : CounterName) → name.origin ≡ sa.origin → is_counter_of sa.spir name ≡ true
its-counter sa name same = ap (λ o. is_of_spir sa.spir (spir_of_origin o)) same ∙ (ap (is_of_spir sa.spir) sa.origin_is_own ∙ eq-eqb sa.spir sa.spir refl)

module _ (now : Moment) (slots : List Slot) (octets : List ℕ) (step : Step) (a : AcceptedBy slots octets step) where
  abbrev slot : Slot
  slot = a.slot

  abbrev spir : ℕ
  spir = slot.sa.spir

  abbrev rise : ℕ
  rise = rise_of DELTA_OCTETS a.asked

  abbrev agreed : Agreed
  agreed = record { next = a.accepted.p2; floor = a.accepted.m2; delta = rise; ends_requests = true }

  pub peer-agreed : agreed_in spir task.Receive step.verdict ≡ Some agreed
  peer-agreed = ap (agreed_in spir task.Receive) a.accepts.said ∙ ap (λ b. if b then Some agreed else None)
      (its-counter slot.sa (peer_counter slot.sa counter.Answer) refl)

  abbrev after : Slot
  after = slot_after now task.Receive step slot

  p2-is : a.accepted.p2 ≡ max a.asked.p1 slot.ask
  p2-is = ap (λ (x : Accepted). x.p2) a.is.2

  m2-is : a.accepted.m2 ≡ max a.asked.m1 (next_after slot.highest)
  m2-is = ap (λ (x : Accepted). x.m2) a.is.2

  next-jumps : after.ask ≡ a.accepted.p2
  next-jumps =
      let jumps : after.ask ≡ max a.accepted.p2 slot.ask = ap (λ x. after_jump (next_in x) slot.ask) peer-agreed in
      let is : a.accepted.p2 ≡ max a.asked.p1 slot.ask = p2-is in
      omega (arith, jumps, is)

  floor-rises : KnowsFloor slot → after.answered.floor ≡ a.accepted.m2
  floor-rises known =
      let raised : after.answered.floor ≡ max slot.answered.floor a.accepted.m2 =
      taken-floor (response_in spir task.Receive step) (after_floor (agreed_in spir task.Receive step.verdict) slot.answered) ∙ ap
      (λ x. (after_floor x slot.answered).floor) peer-agreed in
      let is : a.accepted.m2 ≡ max a.asked.m1 (next_after slot.highest) = m2-is in
      omega (arith, raised, is, known)

  pub greater-left : KnowsFloor slot → TakesGreater a.asked slot after
  greater-left known = record {
    above = a.is.0;
    can_rise = a.is.1;
    floor = floor-rises known ∙ m2-is;
    next = next-jumps ∙ p2-is;
    rose = ap (λ x. after_rise x slot.next) peer-agreed;
    ended = ap (λ x. outstanding_after (ends_in x) (request_in spir task.Receive step) (replied_in spir task.Receive step.verdict) slot.asked) peer-agreed;
  }

module _ (boxes : ℕ) (past : List Turn) (turn : Turn) (explained : Explained boxes (turn ∷ past)) (name : CounterName) (p2 m2 delta : ℕ) (unknown : List ℕ)
    (said : turn.step.verdict ≡ out.SyncAccepted name p2 m2 delta unknown) where
  does : DoesTold boxes past turn
  does = does-told boxes past turn explained.0 explained.1

  accepted-by : (octets : List ℕ) → Brings turn.event parties.Peer → Arrives (told_state boxes past) turn.event octets
      → AcceptedBy (slots_by (window_by past) (own Peer past)) octets turn.step → PeerSynchronised past turn name p2 m2 delta unknown
  accepted-by octets brings arrived a =
      let by : performer turn ≡ Some Peer =
      (let run : is_refused_by_run turn.step.verdict ≡ false = ap is_refused_by_run said in rw run (brings.performs turn.step.verdict)) in
      let had : PeerHolds past a.slot.sa.spir a.slot =
      first-spir boxes past explained.1 (has_spis a.request.header.spii a.request.header.spir) a.slot a.found in
      let has : PeerHolds (turn ∷ past) a.slot.sa.spir (slot_after turn.moment (peer_task turn.event) turn.step a.slot) =
      holds-own boxes past turn does (ap (is_end Peer) by) a.slot.sa.spir a.slot had in
      let known : KnowsFloor a.slot =
      first-all KnowsFloor (is_association a.slot.sa.spir) (slots_by (window_by past) (own Peer past)) a.slot (floors-known boxes past explained.1) had in
      let same : out.SyncAccepted name p2 m2 delta unknown ≡ out.SyncAccepted (peer_counter a.slot.sa counter.Answer) a.accepted.p2 a.accepted.m2
      (rise_of DELTA_OCTETS a.asked) (message_ids_of a.slot.asked) =
      sym said ∙ a.accepts.said in
      record {
        before = a.slot;
        after = slot_after turn.moment task.Receive turn.step a.slot;
        request = a.asked;
        payloads = a.payloads;
        by_peer = by;
        named = cc;
        had = had;
        has = subst (λ asked. PeerHolds (turn ∷ past) a.slot.sa.spir (slot_after turn.moment asked turn.step a.slot)) brings.peer_receives has;
        came = record { octets = octets; arrived = arrived; message = a.request; opens = a.opens; inner = a.inner };
        asks = a.reads;
        greater = greater-left turn.moment (slots_by (window_by past) (own Peer past)) octets turn.step a known;
        floor_said = let p : m2 ≡ a.accepted.m2 = cc in p ∙ sym (floor-rises turn.moment (slots_by (window_by past) (own Peer past)) octets turn.step a known);
        next_said = let p : p2 ≡ a.accepted.p2 = cc in p ∙ sym (next-jumps turn.moment (slots_by (window_by past) (own Peer past)) octets turn.step a);
        delta_said = cc;
        unknown_said = cc;
      }

  pub peer-synchronised : PeerSynchronised past turn name p2 m2 delta unknown
  peer-synchronised = go (does-sync (told_state boxes past) (lots-told boxes past explained.1) turn.moment turn.calls turn.step turn.event does)
    where
      go : SyncTurn (told_state boxes past) turn.event turn.calls turn.step → PeerSynchronised past turn name p2 m2 delta unknown
      go (Other other) = let both : true ≡ false = ap is_of_sync (sym said) ∙ other in absurd (cc)
      go (Announced member spir held asks is_held sends) = let both : _ = sym said ∙ sends.said in absurd (cc)
      go (Accepted_here octets brings arrived accepted) = accepted-by octets brings arrived accepted
      go (Taken_here member octets brings arrived taken) = let both : _ = sym said ∙ taken.says.said in absurd (cc)
