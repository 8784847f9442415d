-- What the window of an end notes are packets that were accepted: so a packet that was not accepted is new to it.
use Rattle.std.proofs.Common.{◌==◌, ◌≡◌, ◌≢◌, ℕ, Bool, true, false, Option, Some, None, List, [], ◌∷◌, refl, ap, sym, ◌∙◌, subst, if◌then◌else◌}
use Rattle.std.proofs.lemmas.Bool.{and_parts, eqb-true}
use Rattle.std.proofs.lemmas.List.Elements.{All-contains, All-from_recursion}
use Rattle.std.proofs.lemmas.Option.{same_Some}
use Rattle.std.specs.List.{AllByRecursion, Contains, cons_option, filter, filter_map}
use Rattle.std.specs.Option.{option_map}
use Rattle.esp_packets.specs.Laws.{SealedPacketsOpen, WindowCovers}
use Rattle.esp_packets.specs.Packet.{spi_of}
use Rattle.events.specs.declared.event.Event.{Event}
use Rattle.events.specs.declared.turn.Step.{Step}
use Rattle.events.specs.declared.turn.Turn.{Turn}
use Rattle.events.specs.declared.verdict.Verdict.{Verdict}
use Rattle.events.specs.declared.verdict.Verdict.TheVariants as out
use Rattle.keeper_book.specs.Records.{spir_of_origin}
use Rattle.keeper_book.specs.declared.calls.Call.{Call}
use Rattle.keeper_book.specs.declared.counters.Counter.TheVariants as counter
use Rattle.keeper_book.specs.declared.records.Taken.{Taken}
use Rattle.replay_set.proofs.Numbers.{judging_by}
use Rattle.replay_set.specs.Window.{judged, window_of}
use Rattle.replay_set.specs.declared.judgement.Judgement.TheVariants.{Fresh}
use Rattle.turn_laws.proofs.Genuine.{member-accepts-it, peer-accepts-it}
use Rattle.turn_laws.proofs.Opened.{IsNamed, its-told, slot-told}
use Rattle.turn_laws.proofs.Outcomes.{Idle, Ours_used, Outcome, Over, Theirs_used, idle-received, outcome-of, over-received}
use Rattle.turn_laws.proofs.Records.{deed-of}
use Rattle.turn_laws.proofs.Theirs.{not-both, no-packet}
use Rattle.turn_laws.proofs.Members.{is_end-true}
use Rattle.turn_laws.specs.FirstDelivery.{IsUnaccepted, IsOtherPacket, MemberAcceptsFirst, PeerAcceptsFirst}
use Rattle.turn_laws.specs.Holdings.{IsNotIn}
use Rattle.turn_laws.specs.Places.{Ours, Place, Theirs, place_of}
use Rattle.turn_laws.proofs.Answered.{since-all, since_entered-all}
use Rattle.turn_laws.proofs.Lists.{all-both, all-filter}
use Rattle.turn_rules.proofs.SlotTies.{DoesTold, first-passes}
use Rattle.turn_rules.proofs.StateLaws.{does-told}
use Rattle.turn_rules.specs.Datagrams.{Delivery, delivery_of}
use Rattle.turn_rules.specs.Ends.{Member, Peer, is_by, own, performer, performer_at}
use Rattle.turn_rules.specs.CountersOf.{is_of_spir}
use Rattle.turn_rules.specs.Held.{Held, accepted, found, grant_of, held_by, holding, received, received_in, received_of, since, window_by}
use Rattle.turn_rules.specs.Local.{Explained}
use Rattle.turn_rules.specs.Safe.{Packet, accepted_as, accepted_in}
use Rattle.turn_rules.specs.Slots.{Slot, first_slot, peer_counter, receives_at, since_entered, slots_by}
use Rattle.turn_rules.specs.Tasks.{receipt}

-- what is no element is contained nowhere
none-contained : (n : ℕ) (numbers : List ℕ) → IsNotIn n numbers → ¬ Contains numbers n
none-contained n numbers none has = All-contains (λ k. k ≢ n) numbers n (All-from_recursion (λ k. k ≢ n) numbers none) has refl

-- a number that is covered, and is none of those that were noted, is new
covered-fresh : (size base n : ℕ) (numbers : List ℕ) → WindowCovers (window_of size base numbers) n → IsNotIn n numbers → judged (window_of size base numbers) n ≡ Fresh
covered-fresh size base n numbers covers none = (judging_by size base numbers n).not_noted covers.from_base covers.meant.reached (none-contained n numbers none)

-- what is received is a packet that was accepted
record Took (spir n : ℕ) (verdict : Verdict) : Type 0 where
  pub packet : Packet
  pub accepted_it : accepted_as verdict ≡ Some packet
  pub number_is : packet.number ≡ n

accepted-took : (spir n : ℕ) (verdict : Verdict) → accepted spir verdict ≡ Some n → Took spir n verdict
accepted-took spir n (out.Accepted name number next_header payload) is = by_test (is_of_spir spir (spir_of_origin name.origin)) is
  where
    by_test : (b : Bool) → (if b then Some number else None) ≡ Some n → Took spir n (out.Accepted name number next_header payload)
    by_test true is = record { packet = record { name = name; number = number }; accepted_it = refl; number_is = same_Some number n is }
    by_test false is = absurd (cc)
accepted-took spir n verdict is = absurd (cc)

received-took : (spir n : ℕ) (event : Event) (verdict : Verdict) → received spir event verdict ≡ Some n → Took spir n verdict
received-took spir n event verdict is = go (delivery_of event) is
  where
    go : (x : Option Delivery) → received_in spir (receipt x) verdict ≡ Some n → Took spir n verdict
    go None is = absurd (cc)
    go (Some delivery) is = accepted-took spir n verdict is

module _ (spir n : ℕ) (past : List Turn) (event : Event) (calls : List Call) (step : Step) (o : Outcome past event calls step) (is : received spir event step.verdict ≡ Some n) where
  abbrev took : Took spir n step.verdict
  took = received-took spir n event step.verdict is

  -- of the counter that received it
  member-took : (member : ℕ) → performer_at event step.verdict ≡ Some (Member member) → place_of took.packet.name ≡ Ours spir counter.EspIn
  member-took member by = go o
    where
      go : Outcome past event calls step → place_of took.packet.name ≡ Ours spir counter.EspIn
      go (Idle rests) = absurd (no-packet n (sym (idle-received spir event step.verdict rests.idle) ∙ is))
      go (Over ended said ends quiet) = absurd (no-packet n (sym (ap (received spir event) said ∙ over-received spir event) ∙ is))
      go (Ours_used u needed it) = it.named took.packet took.accepted_it spir n is
      go (Theirs_used u) = not-both member (performer_at event step.verdict) by u.by_it

-- what holds of more packets holds of the others
fewer-others : {X : Type 0} (P : X → Type 0) (x : Option X) (xs : List X) → AllByRecursion P (cons_option x xs) → AllByRecursion P xs
fewer-others P None xs all = all
fewer-others P (Some x) xs all = all.1

first-other : (P : Packet → Type 0) (x : Option Packet) (packet : Packet) (xs : List Packet) → x ≡ Some packet → AllByRecursion P (cons_option x xs) → P packet
first-other P x packet xs is all = (subst (λ (o : Option Packet). AllByRecursion P (cons_option o xs)) is all).0

-- a turn received no packet of this number
abbrev ReceivesOther : ℕ → ℕ → Turn → Type 0
ReceivesOther spir n turn = received_of spir turn ≢ Some n

-- so an end did that accepted no such packet
module _ (spir n : ℕ) (p : Place) (test : Turn → Bool)
    (took_here : (boxes : ℕ) (past : List Turn) (turn : Turn) (explained : Explained boxes (turn ∷ past)) → test turn ≡ true → (is : received_of spir turn ≡ Some n)
    → place_of (received-took spir n turn.event turn.step.verdict is).packet.name ≡ p) where
  none-received : (boxes : ℕ) (past : List Turn) → Explained boxes past → IsUnaccepted p n past → AllByRecursion (ReceivesOther spir n) (filter test past)
  none-received boxes [] explained first = tt
  none-received boxes (turn ∷ past) explained first = by_test (none-received boxes past explained.1 (fewer-others (IsOtherPacket p n) (accepted_in turn) (filter_map accepted_in past) first)) (test turn) refl
    where
      other : test turn ≡ true → ReceivesOther spir n turn
      other mine is =
          let took : Took spir n turn.step.verdict = received-took spir n turn.event turn.step.verdict is in
          first-other (IsOtherPacket p n) (accepted_in turn) took.packet (filter_map accepted_in past) took.accepted_it first (took_here boxes past turn explained mine is) took.number_is

      by_test : AllByRecursion (ReceivesOther spir n) (filter test past) → (b : Bool) → test turn ≡ b → AllByRecursion (ReceivesOther spir n) (if b then turn ∷ filter test past else filter test past)
      by_test rest true t = (other t, rest)
      by_test rest false t = rest

numbers-other : (spir n : ℕ) (turns : List Turn) → AllByRecursion (ReceivesOther spir n) turns → IsNotIn n (filter_map (received_of spir) turns)
numbers-other spir n [] all = tt
numbers-other spir n (turn ∷ turns) all = by_number (received_of spir turn) refl (numbers-other spir n turns all.1)
  where
    by_number : (x : Option ℕ) → received_of spir turn ≡ x → IsNotIn n (filter_map (received_of spir) turns) → IsNotIn n (cons_option x (filter_map (received_of spir) turns))
    by_number None e rest = rest
    by_number (Some k) e rest = ((λ same. all.0 (e ∙ ap Some same)), rest)

module _ (boxes : ℕ) (past : List Turn) (explained : Explained boxes past) where
  held-fresh : (member spir n : ℕ) (held : Held) → held_by (window_by past) (own (Member member) past) spir ≡ Some held → WindowCovers held.window n → IsUnaccepted (Ours spir counter.EspIn) n past → judged held.window n ≡ Fresh
  held-fresh member spir n held is covers first = go (found (grant_of spir) (own (Member member) past)) is
    where
      mine : List Turn
      mine = own (Member member) past

      none : IsNotIn n (filter_map (received_of spir) (since spir mine))
      none = numbers-other spir n (since spir mine) (since-all (ReceivesOther spir n) spir mine
          (none-received spir n (Ours spir counter.EspIn) (is_by (Member member))
          (λ boxes past turn explained by is. member-took spir n past turn.event turn.calls turn.step (outcome-of past turn.event turn.calls turn.step (deed-of boxes past turn explained.0 explained.1)) is member (is_end-true (Member member) (performer turn) by))
          boxes past explained first))

      go : (x : Option Taken) → option_map (holding (window_by past) spir mine) x ≡ Some held → judged held.window n ≡ Fresh
      go None is = absurd (cc)
      go (Some taken) is =
          let same : holding (window_by past) spir mine taken ≡ held = same_Some (holding (window_by past) spir mine taken) held is in
          let window = ap (λ (h : Held). h.window) same in
          subst (λ window. judged window n ≡ Fresh) window
          (covered-fresh (window_by past) taken.bases.esp_in n (filter_map (received_of spir) (since spir mine)) (subst (λ window. WindowCovers window n) (sym window) covers) none)

  slot-fresh : (test : Slot → Bool) (slot : Slot) (n : ℕ) → first_slot test (slots_by (window_by past) (own Peer past)) ≡ Some slot → WindowCovers slot.window n → IsUnaccepted (Theirs (peer_counter slot.sa counter.EspIn)) n past → judged slot.window n ≡ Fresh
  slot-fresh test slot n is covers first =
      let window = ap (λ (s : Slot). s.window) (slot-told (window_by past) (own Peer past) test slot is) in
      subst (λ window. judged window n ≡ Fresh) (sym window)
      (covered-fresh (window_by past) slot.sa.starts.esp_out n (filter_map (received_of spir) turns) (subst (λ window. WindowCovers window n) window covers)
      (numbers-other spir n turns (all-both turns other (its-told boxes past explained test slot is counter.EspIn).named
      (since_entered-all OtherPacket spir (own Peer past) (all-filter OtherPacket (is_by Peer) past (packets-other past first))))))
    where
      p : Place
      p = Theirs (peer_counter slot.sa counter.EspIn)

      spir : ℕ
      spir = slot.sa.spir

      turns : List Turn
      turns = since_entered spir (own Peer past)

      OtherPacket : Turn → Type 0
      OtherPacket turn = (packet : Packet) → accepted_in turn ≡ Some packet → IsOtherPacket p n packet

      packets-other : (past : List Turn) → IsUnaccepted p n past → AllByRecursion OtherPacket past
      packets-other [] first = tt
      packets-other (turn ∷ past) first = ((λ packet is. first-other (IsOtherPacket p n) (accepted_in turn) packet (filter_map accepted_in past) is first), packets-other past (fewer-others (IsOtherPacket p n) (accepted_in turn) (filter_map accepted_in past) first))

      other : (turn : Turn) → IsNamed slot.sa turn → OtherPacket turn → ReceivesOther spir n turn
      other turn named packets is =
          let took : Took spir n turn.step.verdict = received-took spir n turn.event turn.step.verdict is in
          packets took.packet took.accepted_it (named n took.packet is took.accepted_it) took.number_is

module _ (law : SealedPacketsOpen) (boxes : ℕ) (past : List Turn) (turn : Turn) (explained : Explained boxes (turn ∷ past)) where
  does : DoesTold boxes past turn
  does = does-told boxes past turn explained.0 explained.1

  pub member-accepts-first : MemberAcceptsFirst past turn
  member-accepts-first member spir number held payload octets came is sealed covers first allowed =
      member-accepts-it law boxes past turn does member spir number held payload octets came is
      (record { named = sym is.receives; sealed = sealed; covered = covers; first = held-fresh boxes past explained.1 member spir number held is.is_held covers first })
      allowed

  pub peer-accepts-first : PeerAcceptsFirst past turn
  peer-accepts-first number slot payload octets came is sealed covers first =
      peer-accepts-it law boxes past turn does number slot payload octets came is
      (record { named = sym (eqb-true slot.sa.spi_out (spi_of octets) (and_parts slot.live (slot.sa.spi_out == spi_of octets) (first-passes (receives_at (spi_of octets)) (slots_by (window_by past) (own Peer past)) slot is)).1); sealed = sealed; covered = covers; first = slot-fresh boxes past explained.1 (receives_at (spi_of octets)) slot number is covers first })
