-- What the peer holds after a task, by what one of its associations is then.
use Rattle.std.proofs.Common.{◌≡◌, ℕ, zero, suc, ◌+◌, ◌<◌, ◌≤◌, ◌==◌, max, Bool, true, false, Option, Some, None, Result, Ok, Err, List, [], ◌∷◌, ◌++◌, map, length, get_or, append-nil, ⊎_elim, refl, ap, ap₂, sym, ◌∙◌, subst, arith, if◌then◌else◌}
use Rattle.std.proofs.Math.ListN.{set}
use Rattle.std.proofs.lemmas.Bool.{cases_lt, eq-eqb, ne_eqb}
use Rattle.std.specs.List.{AllByRecursion}
use Rattle.events.specs.declared.turn.Step.{Step}
use Rattle.events.specs.declared.verdict.EspVerdict.{EspVerdict}
use Rattle.events.specs.declared.verdict.EspVerdict.TheVariants as esp
use Rattle.events.specs.declared.verdict.Refusal.{Refusal}
use Rattle.events.specs.declared.verdict.Refusal.TheVariants as refusal
use Rattle.events.specs.declared.verdict.Verdict.TheVariants as out
use Rattle.ha_base.specs.declared.esp_outcomes.EspDrop.{EspDrop}
use Rattle.ha_base.specs.declared.esp_outcomes.EspOpened.{EspOpened}
use Rattle.ha_base.specs.declared.identities.GatewayId.{GatewayId}
use Rattle.ha_base.specs.declared.outside.Moment.{Moment}
use Rattle.keeper_book.specs.CounterEnds.{end_of}
use Rattle.keeper_book.specs.declared.counters.Counter.TheVariants as counter
use Rattle.keeper_book.specs.declared.records.Record.{Record}
use Rattle.turn_rules.proofs.SlotTies.{admits-differ, apart-append}
use Rattle.turn_rules.specs.CountersOf.{is_of_spir}
use Rattle.turn_rules.specs.Packets.{IsVerdictOf, SendsEsp}
use Rattle.turn_rules.specs.PeerStates.{PeerHeld}
use Rattle.turn_rules.specs.Peers.{AreDistinct, Differ}
use Rattle.turn_rules.specs.Slots.{Slot, SlotReceives, SlotSends, SlotTakes, admits, entered_slot, peer_counter, records, slot_after, slot_outbound}
use Rattle.turn_rules.specs.Steps.{IsQuiet, Says}
use Rattle.turn_rules.specs.Tasks as task
use Rattle.turn_rules.specs.Tasks.{Task}
use Rattle.cluster_peer.proofs.Moves.{Made, closed-made, closed_there, moved-after, nothing-after, received-made, received_esp, refused-made, sent-made, sent_esp}
use Rattle.cluster_peer.specs.Slots.{slot_noted}

differ-sym : (a b : Record) → Differ a b → Differ b a
differ-sym a b differ same = differ (sym same)

all-at : (sa : Record) (place : ℕ) (slots : List Slot) (slot : Slot) → place < length slots → slot ≡ get_or slots place slot → AllByRecursion (Differ sa) (records slots) → Differ sa slot.sa
all-at sa place [] slot within is all = absurd (omega arith)
all-at sa zero (x ∷ xs) slot within is all = subst (λ (s : Slot). Differ sa s.sa) (sym is) all.0
all-at sa (suc place) (x ∷ xs) slot within is all = all-at sa place xs slot (omega arith) is all.1

-- another state of the same association, in its place
pub records-set : (place : ℕ) (slots : List Slot) (slot now : Slot) → place < length slots → slot ≡ get_or slots place slot → now.sa ≡ slot.sa → records (set slots place now) ≡ records slots
records-set place [] slot now within is same = absurd (omega arith)
records-set zero (x ∷ xs) slot now within is same = ap (λ sa. sa ∷ records xs) (same ∙ ap (λ (s : Slot). s.sa) is)
records-set (suc place) (x ∷ xs) slot now within is same = ap (λ rest. x.sa ∷ rest) (records-set place xs slot now (omega arith) is same)

pub distinct-set : (place : ℕ) (slots : List Slot) (slot now : Slot) → place < length slots → slot ≡ get_or slots place slot → now.sa ≡ slot.sa → AreDistinct (records slots) → AreDistinct (records (set slots place now))
distinct-set place slots slot now within is same apart = subst AreDistinct (sym (records-set place slots slot now within is same)) apart

records-append : (slots : List Slot) (slot : Slot) → records (slots ++ slot ∷ []) ≡ records slots ++ slot.sa ∷ []
records-append [] slot = refl
records-append (x ∷ xs) slot = ap (λ rest. x.sa ∷ rest) (records-append xs slot)

-- an association that is admitted
pub distinct-more : (slots : List Slot) (size : ℕ) (sa : Record) → admits slots sa ≡ true → AreDistinct (records slots) → AreDistinct (records (slots ++ entered_slot size sa ∷ []))
distinct-more slots size sa admitted apart =
    subst AreDistinct (sym (records-append slots (entered_slot size sa))) (apart-append (records slots) sa apart (admits-differ slots sa admitted))

module _ (f : Slot → Slot) where
  -- a change that leaves these slots
  pub kept_all : (slots : List Slot) → ((slot : Slot) → slot ≡ f slot) → slots ≡ map f slots
  kept_all [] kept = refl
  kept_all (s ∷ ss) kept = ap₂ (λ slot slots. slot ∷ slots) (kept s) (kept_all ss kept)

  kept_others : (sa : Record) (slots : List Slot) → ((slot : Slot) → Differ sa slot.sa → slot ≡ f slot) → AllByRecursion (Differ sa) (records slots) → slots ≡ map f slots
  kept_others sa [] kept differ = refl
  kept_others sa (s ∷ ss) kept differ = ap₂ (λ slot slots. slot ∷ slots) (kept s differ.0) (kept_others sa ss kept differ.1)

  -- one slot becomes another, and the change leaves the others
  pub put : (place : ℕ) (slots : List Slot) (slot now : Slot) → place < length slots → slot ≡ get_or slots place slot → AreDistinct (records slots) → now ≡ f slot
      → ((other : Slot) → Differ slot.sa other.sa → other ≡ f other) → set slots place now ≡ map f slots
  put place [] slot now within is apart now_is kept = absurd (omega arith)
  put zero (x ∷ xs) slot now within is apart now_is kept =
      ap₂ (λ slot slots. slot ∷ slots) (now_is ∙ ap f is) (kept_others x.sa xs (λ other differ. kept other (subst (λ (s : Slot). Differ s.sa other.sa) (sym is) differ)) apart.0)
  put (suc place) (x ∷ xs) slot now within is apart now_is kept =
      ap₂ (λ slot slots. slot ∷ slots) (kept x (differ-sym x.sa slot.sa (all-at x.sa place xs slot (omega arith) is apart.0))) (put place xs slot now (omega arith) is apart.1 now_is kept)

-- what is refused leaves a slot
pub refused-kept : (now : Moment) (asked : Task) (step : Step) (why : Refusal) → Says (out.Refused why) step → (slot : Slot) → slot ≡ slot_after now asked step slot
refused-kept now asked step why says slot = nothing-after now asked step slot (refused-made now asked step slot.sa.spir why says)

module _ (now : Moment) (spir : ℕ) (payload : List ℕ) (step : Step) (place : ℕ) (slots : List Slot) (slot new : Slot) (within : place < length slots) (is : slot ≡ get_or slots place slot) (apart : AreDistinct (records slots)) where
  -- what the peer holds after it sent in an association
  pub sent-after : slot.sa.spir ≡ spir → SlotSends slot payload step → (slot.next < end_of slot.sa counter.EspOut → new ≡ record slot { next = slot.next + 1 }) → (end_of slot.sa counter.EspOut ≤ slot.next → new ≡ slot)
      → set slots place new ≡ map (slot_after now (task.Send spir payload) step) slots
  sent-after its sends goes stays = ⊎_elim went stopped (cases_lt slot.next (end_of slot.sa counter.EspOut))
    where
      made : (other : Slot) (number : Option ℕ) → SendsEsp (slot_outbound slot) slot.next payload step → (if spir == other.sa.spir then Some slot.next else None) ≡ number → Made now (task.Send spir payload) step other.sa.spir (sent_esp number)
      made other number sent used = subst (λ n. Made now (task.Send spir payload) step other.sa.spir (sent_esp n)) used (sent-made now other.sa.spir spir slot.next payload payload slot step sent)

      went : slot.next < end_of slot.sa counter.EspOut → set slots place new ≡ map (slot_after now (task.Send spir payload) step) slots
      went below =
          let sent : SendsEsp (slot_outbound slot) slot.next payload step = sends.within below in
          let more : slot.next + 1 ≡ max (slot.next + 1) slot.next = omega arith in
          put (slot_after now (task.Send spir payload) step) place slots slot new within is apart
          (goes below ∙ (λ i. record slot { next = more i })
          ∙ moved-after now (task.Send spir payload) step slot (sent_esp (Some slot.next)) (made slot (Some slot.next) sent (ap (λ b. if b then Some slot.next else None) (eq-eqb spir slot.sa.spir (sym its)))))
          (λ other differ. nothing-after now (task.Send spir payload) step other
          (made other None sent (ap (λ b. if b then Some slot.next else None) (ne_eqb spir other.sa.spir (λ same. differ (its ∙ same))))))

      stopped : end_of slot.sa counter.EspOut ≤ slot.next → set slots place new ≡ map (slot_after now (task.Send spir payload) step) slots
      stopped above =
          let kept : (any : Slot) → any ≡ slot_after now (task.Send spir payload) step any = refused-kept now (task.Send spir payload) step refusal.Exhausted (sends.ended above) in
          put (slot_after now (task.Send spir payload) step) place slots slot new within is apart (stays above ∙ kept slot) (λ other differ. kept other)

-- what the peer holds after it closed an association
pub closed-after : (now : Moment) (spir : ℕ) (step : Step) (place : ℕ) (slots : List Slot) (slot new : Slot) → place < length slots → slot ≡ get_or slots place slot → AreDistinct (records slots)
    → slot.sa.spir ≡ spir → Says out.Forgotten step → new ≡ record slot { live = false } → set slots place new ≡ map (slot_after now (task.Forget spir) step) slots
closed-after now spir step place slots slot new within is apart its says goes =
    put (slot_after now (task.Forget spir) step) place slots slot new within is apart
    (goes ∙ moved-after now (task.Forget spir) step slot (closed_there true) (made slot true (eq-eqb spir slot.sa.spir (sym its))))
    (λ other differ. nothing-after now (task.Forget spir) step other (made other false (ne_eqb spir other.sa.spir (λ same. differ (its ∙ same)))))
  where
    made : (other : Slot) (own : Bool) → (spir == other.sa.spir) ≡ own → Made now (task.Forget spir) step other.sa.spir (closed_there own)
    made other own same = subst (λ b. Made now (task.Forget spir) step other.sa.spir (closed_there b)) same (closed-made now other.sa.spir spir step says)

module _ (now : Moment) (answer : EspVerdict) (after : List ℕ) (step : Step) (worded : IsVerdictOf answer after step.verdict) (quiet : IsQuiet step) where
  -- a packet that is dropped leaves a slot
  pub dropped-kept : (why : EspDrop) → answer ≡ esp.Dropped why → (slot : Slot) → slot ≡ slot_after now task.Receive step slot
  dropped-kept why e slot =
      let said : step.verdict ≡ out.DroppedEsp why = subst (λ a. IsVerdictOf a after step.verdict) e worded in
      nothing-after now task.Receive step slot (received-made now slot.sa.spir step (out.DroppedEsp why) None quiet said refl refl refl refl refl)

  module _ (place : ℕ) (slots : List Slot) (slot new : Slot) (within : place < length slots) (is : slot ≡ get_or slots place slot) (apart : AreDistinct (records slots)) (noted : new ≡ slot_noted answer slot) where
    -- what the peer holds after an association answered a packet
    received-after : (opened : Result EspOpened EspDrop) → SlotTakes slot opened answer → set slots place new ≡ map (slot_after now task.Receive step) slots
    received-after (Err why) takes =
        put (slot_after now task.Receive step) place slots slot new within is apart
        (noted ∙ ap (λ a. slot_noted a slot) takes ∙ dropped-kept why takes slot)
        (λ other differ. dropped-kept why takes other)
    received-after (Ok packet) takes =
        put (slot_after now task.Receive step) place slots slot new within is apart
        (noted ∙ ap (λ a. slot_noted a slot) takes ∙ moved-after now task.Receive step slot (received_esp (Some packet.number)) (made slot (Some packet.number) (ap (λ b. if b then Some packet.number else None) (eq-eqb slot.sa.spir slot.sa.spir refl))))
        (λ other differ. nothing-after now task.Receive step other (made other None (ap (λ b. if b then Some packet.number else None) (ne_eqb slot.sa.spir other.sa.spir differ))))
      where
        as_said : IsVerdictOf (esp.Accepted (peer_counter slot.sa counter.EspIn) packet) after step.verdict
        as_said = subst (λ a. IsVerdictOf a after step.verdict) takes worded

        -- it is accepted there, and in no other association
        made : (other : Slot) (number : Option ℕ) → (if slot.sa.spir == other.sa.spir then Some packet.number else None) ≡ number → Made now task.Receive step other.sa.spir (received_esp number)
        made other number same =
            received-made now other.sa.spir step (out.Accepted (peer_counter slot.sa counter.EspIn) packet.number packet.next_header as_said.0) number quiet as_said.2
            (ap (λ (x : Option ℕ). if is_of_spir other.sa.spir x then Some packet.number else None) slot.sa.origin_is_own ∙ same) refl refl refl refl

    pub packet-after : (octets : List ℕ) → SlotReceives slot octets answer after → set slots place new ≡ map (slot_after now task.Receive step) slots
    packet-after octets receives = received-after receives.opened receives.takes

-- what is sent or received lets no association in
abbrev held_with : GatewayId → List Slot → PeerHeld
held_with gateway slots = record { gateway = gateway; slots = slots }

pub held-after : (now : Moment) (asked : Task) (step : Step) (gateway : GatewayId) (old new : List Slot) → new ≡ map (slot_after now asked step) old → held_with gateway new ≡ held_with gateway (map (slot_after now asked step) old ++ [])
held-after now asked step gateway old new same = ap (held_with gateway) (same ∙ sym (append-nil (map (slot_after now asked step) old)))
