-- The covers of received ESP numbers go less than one lead beyond what the peer sends next.
use Rattle.std.proofs.Common.{◌≡◌, ℕ, ◌+◌, ◌<◌, ◌≤◌, Bool, true, false, Option, Some, None, Result, Ok, Err, List, [], ◌∷◌, map, option_to_list, ⊎_elim, refl, ap, sym, ◌∙◌, subst, arith, if◌then◌else◌}
use Rattle.std.proofs.lemmas.Option.{same_Some}
use Rattle.std.specs.List.{AllByRecursion, cons_option}
use Rattle.events.specs.declared.seals.Seal.{Seal}
use Rattle.events.specs.declared.turn.Turn.{Turn}
use Rattle.ha_base.specs.declared.counter_names.CounterName.{CounterName}
use Rattle.ha_base.specs.declared.esp_outcomes.EspDrop.{EspDrop}
use Rattle.ha_base.specs.declared.esp_outcomes.EspOpened.{EspOpened}
use Rattle.horizons.specs.Reaches.{lead_of}
use Rattle.keeper_book.specs.Records.{spir_of_origin}
use Rattle.keeper_book.specs.declared.calls.Call.{Call}
use Rattle.keeper_book.specs.declared.counters.Counter.{Counter}
use Rattle.keeper_book.specs.declared.counters.Counter.TheVariants as counter
use Rattle.keeper_book.specs.declared.records.Record.{Record}
use Rattle.turn_laws.proofs.Accepted.{all-parts}
use Rattle.turn_laws.proofs.CoverTurns.{CoverTurn, None_asked, Packet_here, does-cover, takes-within}
use Rattle.turn_laws.proofs.Deeds.{PeerNeed, number_theirs, rest_of, spent_by_spir, spent_theirs}
use Rattle.turn_laws.proofs.Lists.{all-append}
use Rattle.turn_laws.proofs.Names.{is_place-same}
use Rattle.turn_laws.proofs.Outcomes.{Idle, Ours_used, Outcome, Over, Theirs_used, outcome-of}
use Rattle.turn_laws.proofs.PeerSyncs.{first-spir, holds-other, holds-own}
use Rattle.turn_laws.proofs.Records.{lots-told, deed-of}
use Rattle.turn_laws.proofs.Uses.{AreUses, Counts, IsUse, Seals_it, Spent, spent_at, spent_of}
use Rattle.turn_laws.specs.Acts.{Move, Seals}
use Rattle.turn_laws.specs.CaughtUp.{CoversAreCaughtUp, IsCaughtUp, NoneInvented, OpensPacketOf, SealsThem, WereSealed, upto_asked, uptos_in, uptos_of}
use Rattle.turn_laws.specs.Places.{Ours, Place, Theirs, is_place, place_of}
use Rattle.turn_laws.specs.Synchronising.{PeerHolds}
use Rattle.turn_laws.specs.Turns.{key_iv, uses_of}
use Rattle.turn_rules.proofs.SlotTies.{DoesTold, all-weaker}
use Rattle.turn_rules.proofs.StateLaws.{does-told}
use Rattle.turn_rules.specs.Draws.{counter_kind}
use Rattle.turn_rules.specs.Ends.{Member, Peer, is_by, is_end, own}
use Rattle.turn_rules.specs.Held.{Held, after_number, held_by, used_in, window_by}
use Rattle.turn_rules.specs.Local.{Explained}
use Rattle.turn_rules.specs.MemberPackets.{IsReceived, IsReceiver, TakesPacket, inbound_of}
use Rattle.turn_rules.specs.Packets.{OpensEsp}
use Rattle.turn_rules.specs.Safe.{KeyIv}
use Rattle.turn_rules.specs.Slots.{Slot, peer_counter, slot_after}
use Rattle.turn_rules.specs.MemberStates.{held_unless}
use Rattle.turn_rules.specs.States.{has_ended, told_state}
use Rattle.turn_rules.specs.Synchronised.{Agreed, after_rise, agreed_in}
use Rattle.turn_rules.specs.Tasks.{peer_task}
use Rattle.ha_base.specs.declared.counter_names.End.TheVariants as end

-- ---- the peer's next number only rises

-- the peer has the association, and sends numbers from this one on next
pub record SendsFrom (past : List Turn) (spir n : ℕ) : Type 0 where
  pub slot : Slot
  pub holds : PeerHolds past spir slot
  pub from : n ≤ slot.next

pub after-more : (agreed : Option Agreed) (number : Option ℕ) (next : ℕ) → next ≤ after_rise agreed (after_number number next)
after-more None None next = omega arith
after-more None (Some n) next = omega arith
after-more (Some agreed) None next = omega arith
after-more (Some agreed) (Some n) next = omega arith

after-used : (agreed : Option Agreed) (n next : ℕ) → n + 1 ≤ after_rise agreed (after_number (Some n) next)
after-used None n next = omega arith
after-used (Some agreed) n next = omega arith

pub still-sends : (boxes : ℕ) (past : List Turn) (turn : Turn) → DoesTold boxes past turn → (spir n : ℕ) → SendsFrom past spir n
    → SendsFrom (turn ∷ past) spir n
still-sends boxes past turn does spir n old = by_test (is_by Peer turn) refl
  where
    by_test : (b : Bool) → is_by Peer turn ≡ b → SendsFrom (turn ∷ past) spir n
    by_test true mine =
        let more : old.slot.next ≤ (slot_after turn.moment (peer_task turn.event) turn.step old.slot).next =
        after-more (agreed_in old.slot.sa.spir (peer_task turn.event) turn.step.verdict)
        (used_in end.Peer old.slot.sa.spir counter.EspOut (peer_task turn.event) turn.step) old.slot.next in
        let from : n ≤ old.slot.next = old.from in
        record {
          slot = slot_after turn.moment (peer_task turn.event) turn.step old.slot;
          holds = holds-own boxes past turn does mine spir old.slot old.holds;
          from = omega (arith, more, from);
        }
    by_test false other = record { slot = old.slot; holds = holds-other boxes past turn does other spir old.slot old.holds; from = old.from }

-- ---- what the peer sealed under an ESP number lies below the one that it sends next

-- the numbers of a place that were spent, where at most one was
abbrev IsTheOne : Place → Option ℕ → Spent → Type 0
IsTheOne p x s = s.place ≡ p → x ≡ Some s.number

all-spent : (p : Place) (ss : List Spent) (x : Option ℕ) → spent_at p ss ≡ option_to_list x → AllByRecursion (IsTheOne p x) ss
all-spent p [] x is = tt
all-spent p (s ∷ ss) x is = by_test (λ y e. all-spent p ss y e) (is_place s.place p) refl
  where
    first : (y : Option ℕ) → s.number ∷ spent_at p ss ≡ option_to_list y → (y ≡ Some s.number) × (spent_at p ss ≡ [])
    first None e = absurd (cc)
    first (Some n) e = ((let same : s.number ≡ n = cc in ap Some (sym same)), cc)

    by_test : ((y : Option ℕ) → spent_at p ss ≡ option_to_list y → AllByRecursion (IsTheOne p y) ss) → (b : Bool) → is_place s.place p ≡ b
        → IsTheOne p x s × AllByRecursion (IsTheOne p x) ss
    by_test later true t =
        let parts : (x ≡ Some s.number) × (spent_at p ss ≡ []) =
        first x (ap (λ b. cons_option (if b then Some s.number else None) (spent_at p ss)) (sym t) ∙ is) in
        ((λ at. parts.0), all-weaker ss (λ r one at. let none : None ≡ Some r.number = one at in absurd (cc)) (later None parts.1))
    by_test later false t = (
      (λ at. let both : true ≡ false = sym (subst (λ q. is_place q p ≡ true) (sym at) (is_place-same p)) ∙ t in absurd (cc)),
      later x (ap (λ b. cons_option (if b then Some s.number else None) (spent_at p ss)) (sym t) ∙ is),
    )

-- what holds of all numbers that were spent holds of those of seals
abbrev OfSeals : (Spent → Type 0) → Move → Type 0
OfSeals P move = (name : CounterName) (iv : ℕ) → move ≡ Seals (record { name = name; iv = iv }) → P (spent_of (place_of name) iv)

seals-spent : (P : Spent → Type 0) (ss : List Spent) (moves : List Move) → AllByRecursion P ss → AreUses ss moves → AllByRecursion (OfSeals P) moves
seals-spent P [] [] all uses = tt
seals-spent P [] (move ∷ moves) all uses = absurd uses
seals-spent P (s ∷ ss) [] all uses = absurd uses
seals-spent P (s ∷ ss) (move ∷ moves) all uses = (one uses.0, seals-spent P ss moves all.1 uses.1)
  where
    one : IsUse s.place s.number move → OfSeals P move
    one (Counts is) name iv same = let both : _ = sym is ∙ same in absurd (cc)
    one (Seals_it key place number is) name iv same =
        let both : Seals key ≡ Seals (record { name = name; iv = iv }) = sym is ∙ same in
        let keys : key ≡ record { name = name; iv = iv } = cc in
        let places : s.place ≡ place_of name = sym place ∙ ap (λ (k : KeyIv). place_of k.name) keys in
        let numbers : s.number ≡ iv = sym number ∙ ap (λ (k : KeyIv). k.iv) keys in
        subst P (λ i. spent_of (places i) (numbers i)) all.0

of-seal : (P : Spent → Type 0) (name : CounterName) (n : ℕ) (octets : List ℕ) (seals : List Seal)
    → AllByRecursion (OfSeals P) (map (λ seal. Seals (key_iv seal)) seals) → SealsThem name n octets seals → P (spent_of (place_of name) n)
of-seal P name n octets [] all them = absurd them
of-seal P name n octets (seal ∷ seals) all them = ⊎_elim
    (λ is. all.0 name n (λ i. Seals (record { name = is.named i; iv = is.iv i })))
    (λ more. of-seal P name n octets seals all.1 more)
    them

step-sealed : (P : Spent → Type 0) (ss : List Spent) (turn : Turn) (name : CounterName) (n : ℕ) (octets : List ℕ) → AllByRecursion P ss
    → AreUses ss (rest_of turn.event turn.step) → SealsThem name n octets turn.step.seals → P (spent_of (place_of name) n)
step-sealed P ss turn name n octets all uses them =
    of-seal P name n octets turn.step.seals
    (all-parts (OfSeals P) (uses_of turn.event turn.step.verdict turn.step.seals) (map (λ seal. Seals (key_iv seal)) turn.step.seals)
    (seals-spent P ss (rest_of turn.event turn.step) all uses)).1
    them

sends-kind : (c : Counter) → counter_kind c ≡ counter_kind counter.EspOut → c ≡ counter.EspOut
sends-kind counter.EspOut same = refl
sends-kind counter.EspIn same = absurd (cc)
sends-kind counter.Iv same = absurd (cc)
sends-kind counter.Ask same = absurd (cc)
sends-kind counter.Answer same = absurd (cc)

abbrev name_at : CounterName → Place → CounterName
name_at none (Theirs name) = name
name_at none p = none

module _ (boxes : ℕ) (past : List Turn) (turn : Turn) (explained : Explained boxes (turn ∷ past)) (sa : Record) where
  does : DoesTold boxes past turn
  does = does-told boxes past turn explained.0 explained.1

  abbrev name : CounterName
  name = peer_counter sa counter.EspOut

  -- what was used of that counter is sent before what comes next
  abbrev IsPassed : Spent → Type 0
  IsPassed s = s.place ≡ Theirs name → SendsFrom (turn ∷ past) sa.spir (s.number + 1)

  need-passed : is_by Peer turn ≡ true → (need : PeerNeed past)
      → ((spir : ℕ) → IsTheOne (Ours spir counter.EspOut) (number_theirs spir counter.EspOut turn.event turn.step) (spent_by_spir need))
      → IsPassed (spent_theirs need)
  need-passed mine need told at =
      let names : peer_counter need.slot.sa need.c ≡ name = ap (name_at name) at in
      let sends : need.c ≡ counter.EspOut = sends-kind need.c (ap (λ (n : CounterName). n.kind) names) in
      let spirs : Some need.slot.sa.spir ≡ Some sa.spir =
      sym need.slot.sa.origin_is_own ∙ (ap (λ (n : CounterName). spir_of_origin n.origin) names ∙ sa.origin_is_own) in
      let spir : need.slot.sa.spir ≡ sa.spir = same_Some need.slot.sa.spir sa.spir spirs in
      let had : PeerHolds past need.slot.sa.spir need.slot = first-spir boxes past explained.1 need.test need.slot need.is_first in
      let has : PeerHolds (turn ∷ past) need.slot.sa.spir (slot_after turn.moment (peer_task turn.event) turn.step need.slot) =
      holds-own boxes past turn does mine need.slot.sa.spir need.slot had in
      let used : used_in end.Peer need.slot.sa.spir counter.EspOut (peer_task turn.event) turn.step ≡ Some need.number =
      told need.slot.sa.spir (ap (Ours need.slot.sa.spir) sends) in
      let agreed : Option Agreed = agreed_in need.slot.sa.spir (peer_task turn.event) turn.step.verdict in
      let next : (slot_after turn.moment (peer_task turn.event) turn.step need.slot).next ≡ after_rise agreed (after_number (Some need.number) need.slot.next) =
      ap (λ x. after_rise agreed (after_number x need.slot.next)) used in
      let more : need.number + 1 ≤ after_rise agreed (after_number (Some need.number) need.slot.next) = after-used agreed need.number need.slot.next in
      record {
        slot = slot_after turn.moment (peer_task turn.event) turn.step need.slot;
        holds = subst (λ k. PeerHolds (turn ∷ past) k (slot_after turn.moment (peer_task turn.event) turn.step need.slot)) spir has;
        from = omega (arith, next, more);
      }

  needs-passed : is_by Peer turn ≡ true → (needs : List (PeerNeed past))
      → ((spir : ℕ) → AllByRecursion (IsTheOne (Ours spir counter.EspOut) (number_theirs spir counter.EspOut turn.event turn.step)) (map spent_by_spir needs))
      → AllByRecursion IsPassed (map spent_theirs needs)
  needs-passed mine [] told = tt
  needs-passed mine (need ∷ needs) told = (need-passed mine need (λ spir. (told spir).0), needs-passed mine needs (λ spir. (told spir).1))

  now-sealed : (n : ℕ) (octets : List ℕ) → SealsThem name n octets turn.step.seals → SendsFrom (turn ∷ past) sa.spir (n + 1)
  now-sealed n octets them = go (outcome-of past turn.event turn.calls turn.step (deed-of boxes past turn explained.0 explained.1))
    where
      unsealed : turn.step.seals ≡ [] → SendsFrom (turn ∷ past) sa.spir (n + 1)
      unsealed none = absurd (subst (λ seals. SealsThem name n octets seals) none them)

      go : Outcome past turn.event turn.calls turn.step → SendsFrom (turn ∷ past) sa.spir (n + 1)
      go (Idle rests) = unsealed rests.seals
      go (Over member said ends quiet) = unsealed quiet.seals
      go (Ours_used u needed it) = step-sealed IsPassed it.ss turn name n octets
          (all-weaker it.ss (λ s one at. let none : None ≡ Some s.number = one at in absurd (cc)) (all-spent (Theirs name) it.ss None (it.not_theirs name)))
          it.uses_them them refl
      go (Theirs_used u) = step-sealed IsPassed (map spent_theirs u.needs) turn name n octets
          (needs-passed (ap (is_end Peer) u.by_it) u.needs
          (λ spir. all-spent (Ours spir counter.EspOut) (map spent_by_spir u.needs) (number_theirs spir counter.EspOut turn.event turn.step)
          (u.told spir counter.EspOut)))
          u.uses_them them refl

-- so it is of octets that were sealed in any earlier turn
sealed-passed : (boxes : ℕ) (past : List Turn) → Explained boxes past → (sa : Record) (n : ℕ) (octets : List ℕ)
    → WereSealed (peer_counter sa counter.EspOut) n octets past → SendsFrom past sa.spir (n + 1)
sealed-passed boxes [] local sa n octets were = absurd were
sealed-passed boxes (turn ∷ past) local sa n octets were = ⊎_elim
    (λ now. now-sealed boxes past turn local sa n octets now)
    (λ before. still-sends boxes past turn (does-told boxes past turn local.0 local.1) sa.spir (n + 1) (sealed-passed boxes past local.1 sa n octets before))
    were

-- ---- covers

-- a member that has something is not ended, and has what its own turns tell
unended : (spi spir : ℕ) (held : Held) (of : ℕ → Option Held) (ended : Bool) → IsReceiver (λ s. held_unless ended (of s)) spi spir held
    → IsReceiver of spi spir held
unended spi spir held of true is = let none : None ≡ Some held = is.is_held in absurd (cc)
unended spi spir held of false is = is

abbrev CallsCaughtUp : List Turn → List Call → Type 0
CallsCaughtUp past calls = AllByRecursion (λ call. (spir upto : ℕ) → upto_asked spir counter.EspIn call.asked ≡ Some upto → IsCaughtUp past spir upto) calls

module _ (boxes : ℕ) (past : List Turn) (turn : Turn) (explained : Explained boxes (turn ∷ past))
    (genuine : (member number : ℕ) (held : Held) (octets : List ℕ) → OpensPacketOf past turn member number held octets → WereSealed
    (peer_counter held.sa counter.EspOut) number octets past) where
  packet-caught : (member : ℕ) (octets : List ℕ) → (held : Held) (opened : Result EspOpened EspDrop) (after : List ℕ)
      → ((packet : EspOpened) → opened ≡ Ok packet → OpensPacketOf past turn member packet.number held octets) → (answer : _)
      → TakesPacket held opened turn.calls answer → CallsCaughtUp (turn ∷ past) turn.calls
  packet-caught member octets held (Err why) after opens answer takes = subst (λ calls. CallsCaughtUp (turn ∷ past) calls) (sym takes.0) tt
  packet-caught member octets held (Ok packet) after opens answer takes =
      let were : WereSealed (peer_counter held.sa counter.EspOut) packet.number octets past = genuine member packet.number held octets (opens packet refl) in
      let now : SendsFrom (turn ∷ past) held.sa.spir (packet.number + 1) =
      still-sends boxes past turn (does-told boxes past turn explained.0 explained.1) held.sa.spir (packet.number + 1)
      (sealed-passed boxes past explained.1 held.sa packet.number octets were) in
      all-weaker turn.calls
      (λ call within spir upto is.
      let so : (held.sa.spir ≡ spir) × (upto ≤ packet.number + lead_of counter.EspIn) = within spir upto is in
      let from : packet.number + 1 ≤ now.slot.next = now.from in
      let low : upto ≤ packet.number + lead_of counter.EspIn = so.1 in
      record { slot = now.slot; holds = subst (λ k. PeerHolds (turn ∷ past) k now.slot) so.0 now.holds; below = omega (arith, from, low) })
      (takes-within held packet turn.calls answer takes)

  turn-caught : CallsCaughtUp (turn ∷ past) turn.calls
  turn-caught = go (does-cover (told_state boxes past) (lots-told boxes past explained.1) turn.moment turn.calls turn.step turn.event (does-told boxes past turn explained.0 explained.1))
    where
      go : CoverTurn (told_state boxes past) turn.event turn.calls → CallsCaughtUp (turn ∷ past) turn.calls
      go (None_asked none) = all-weaker turn.calls (λ call asks spir upto is. let both : None ≡ Some upto = sym (asks spir) ∙ is in absurd (cc)) none
      go (Packet_here member octets addressed arrived opened) =
          let got : IsReceived ((told_state boxes past).members member).held octets turn.calls opened.answer opened.after = opened.received in
          packet-caught member octets got.receiver got.receives.opened opened.after
          (λ packet is. record {
            addressed = addressed;
            arrived = arrived;
            spir = got.spir;
            receives = unended _ got.spir got.receiver (held_by (window_by past) (own (Member member) past)) (has_ended member past) got.is_receiver;
            packet = packet;
            after = opened.after;
            opens = subst (λ x. OpensEsp (inbound_of got.receiver) octets x opened.after) is got.receives.opens;
            numbered = refl;
          })
          opened.answer got.receives.takes

-- what is caught up with stays so
still-caught : (boxes : ℕ) (past : List Turn) (turn : Turn) → DoesTold boxes past turn → (spir upto : ℕ) → IsCaughtUp past spir upto
    → IsCaughtUp (turn ∷ past) spir upto
still-caught boxes past turn does spir upto old =
    let now : SendsFrom (turn ∷ past) spir old.slot.next =
    still-sends boxes past turn does spir old.slot.next (record { slot = old.slot; holds = old.holds; from = omega arith }) in
    let from : old.slot.next ≤ now.slot.next = now.from in
    let below : upto < old.slot.next + lead_of counter.EspIn = old.below in
    record { slot = now.slot; holds = now.holds; below = omega (arith, from, below) }

calls-uptos : (past : List Turn) (spir : ℕ) (calls : List Call) → CallsCaughtUp past calls → AllByRecursion (IsCaughtUp past spir) (uptos_of spir calls)
calls-uptos past spir [] all = tt
calls-uptos past spir (call ∷ calls) all = go (upto_asked spir counter.EspIn call.asked) refl (calls-uptos past spir calls all.1)
  where
    go : (x : Option ℕ) → upto_asked spir counter.EspIn call.asked ≡ x → AllByRecursion (IsCaughtUp past spir) (uptos_of spir calls)
        → AllByRecursion (IsCaughtUp past spir) (cons_option x (uptos_of spir calls))
    go None e rest = rest
    go (Some upto) e rest = (all.0 spir upto e, rest)

pub covers-caught : (boxes : ℕ) (past : List Turn) → Explained boxes past → NoneInvented past → CoversAreCaughtUp past
covers-caught boxes [] local none spir = tt
covers-caught boxes (turn ∷ past) local none spir =
    all-append (IsCaughtUp (turn ∷ past) spir) (uptos_of spir turn.calls) (uptos_in spir past)
    (calls-uptos (turn ∷ past) spir turn.calls (turn-caught boxes past turn local none.0))
    (all-weaker (uptos_in spir past) (λ upto old. still-caught boxes past turn (does-told boxes past turn local.0 local.1) spir upto old)
    (covers-caught boxes past local.1 none.1 spir))
