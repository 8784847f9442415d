-- After a synchronisation no request below the new floor is taken.
use Rattle.std.proofs.Common.{◌≡◌, ℕ, ◌≤◌, Bool, true, false, Option, Some, None, List, [], ◌∷◌, ◌++◌, map, ◌⊎◌, ⊎_elim, inl, inr, refl, ap, sym, ◌∙◌, subst, arith, if◌then◌else◌}
use Rattle.std.proofs.lemmas.Bool.{eqb-true}
use Rattle.std.proofs.lemmas.Option.{same_Some}
use Rattle.std.specs.List.{AllByRecursion, cons_option, filter_map}
use Rattle.std.specs.Option.{option_map}
use Rattle.events.specs.declared.event.Event.{Event}
use Rattle.events.specs.declared.seals.Seal.{Seal}
use Rattle.events.specs.declared.turn.Step.{Step}
use Rattle.events.specs.declared.turn.Turn.{Turn}
use Rattle.events.specs.declared.verdict.Verdict.{Verdict}
use Rattle.events.specs.declared.verdict.Verdict.TheVariants as out
use Rattle.ha_base.specs.declared.counter_names.CounterName.{CounterName}
use Rattle.ike_window.proofs.Windows.{new_from_floor}
use Rattle.ike_window.specs.Kept.{KeptMessage}
use Rattle.ike_window.specs.Requests.{IsNewRequest}
use Rattle.ike_window.specs.Stored.{window_of_responses}
use Rattle.ike_window.specs.Windows.{IsAnswered, ResponseWindow}
use Rattle.keeper_book.specs.Records.{spir_of_origin}
use Rattle.keeper_book.specs.declared.calls.Call.{Call}
use Rattle.keeper_book.specs.declared.counters.Counter.{Counter}
use Rattle.keeper_book.specs.declared.counters.Counter.TheVariants as counter
use Rattle.keeper_book.specs.declared.records.Record.{Record}
use Rattle.keeper_book.specs.declared.records.Taken.{Taken}
use Rattle.turn_laws.proofs.Covers.{are_ready-calls}
use Rattle.turn_laws.proofs.Deeds.{Deed, InVain, IsLotReady, IsOpen, IsOpenTo, Leased, Left, LotNeed, MemberUses, Need, PeerNeed, Rested, Asked, Ended, Rests, Used, Used_theirs, UsesIt, lots_of, rest_of, spent_by, spent_theirs, with_lot}
use Rattle.turn_laws.proofs.MemberSyncs.{held-own, member-synchronised}
use Rattle.turn_laws.proofs.Names.{place-ours}
use Rattle.turn_laws.proofs.Opened.{slot-told}
use Rattle.turn_laws.proofs.Outcomes.{idle-untaken}
use Rattle.turn_laws.proofs.PeerSyncs.{holds-other, holds-own, one-slot, peer-synchronised, taken-floor}
use Rattle.turn_laws.proofs.Records.{deed-of}
use Rattle.turn_laws.proofs.Theirs.{not-both}
use Rattle.turn_laws.proofs.Members.{is_end-true}
use Rattle.turn_laws.proofs.Uses.{AreUses, Counts, IsUse, Seals_it, Spent, all-among, spent_of}
use Rattle.turn_laws.specs.Acts.{Move, Seals, Uses}
use Rattle.turn_laws.specs.Places.{Ours, Place, Pooled, Theirs, place_of}
use Rattle.turn_laws.specs.Synchronising.{IsFrom, MemberHolds, MemberSynchronised, MemberTakesFrom, PeerHolds, PeerSynchronised, PeerTakesFrom, TakeFrom, is_association}
use Rattle.turn_laws.specs.Turns.{key_iv, place_answered, uses_of}
use Rattle.turn_rules.proofs.SlotTies.{DoesTold, first-passes, other-config}
use Rattle.turn_rules.proofs.StateLaws.{does-told}
use Rattle.turn_rules.specs.Draws.{counter_kind}
use Rattle.turn_rules.specs.Ends.{Member, Peer, is_by, own, performer}
use Rattle.turn_rules.specs.Held.{Held, advanced, agreements_of, first_some, floor_of, found, grant_of, held_by, holding, since, window_by}
use Rattle.turn_rules.specs.IkeState.{answered_after, response_in, turn_agreed, turn_response}
use Rattle.turn_rules.specs.Local.{Explained, IsByRule}
use Rattle.turn_rules.specs.Safe.{Request, request_taken, taken_as, taken_in}
use Rattle.turn_rules.specs.Slots.{Slot, first_slot, peer_counter, since_entered, slot_after, slots_by}
use Rattle.turn_rules.specs.Synchronised.{Agreed, after_floor, agreed_in}
use Rattle.turn_rules.specs.Tasks.{member_task, peer_task}

-- ---- floors only rise

raised-more : (agreed : Option Agreed) (window : ResponseWindow) → window.floor ≤ (after_floor agreed window).floor
raised-more None window = omega arith
raised-more (Some agreed) window = omega arith

answered-more : (agreed : Option Agreed) (response : Option KeptMessage) (window : ResponseWindow)
    → window.floor ≤ (answered_after agreed response window).floor
answered-more agreed response window =
    let more : window.floor ≤ (after_floor agreed window).floor = raised-more agreed window in
    let same : (answered_after agreed response window).floor ≡ (after_floor agreed window).floor = taken-floor response (after_floor agreed window) in
    omega (arith, more, same)

-- ---- a request that is taken is a number that was used

-- a turn that takes a request uses its Message ID first
taken-moves : (event : Event) (verdict : Verdict) (seals : List Seal) (request : Request) → taken_as verdict ≡ Some request
    → uses_of event verdict seals ≡ Uses (place_answered request) request.id ∷ []
taken-moves event (out.Executed name id mark) seals request is = ap (λ (r : Request). Uses (place_answered r) r.id ∷ [])
    (same_Some (request_taken name id) request is)
taken-moves event (out.Refusing name id notify) seals request is = ap (λ (r : Request). Uses (place_answered r) r.id ∷ [])
    (same_Some (request_taken name id) request is)
taken-moves event verdict seals request is = absurd (cc)

-- what holds of all numbers that are used holds of that one
first-used : (P : Spent → Type 0) (ss : List Spent) (place : Place) (n : ℕ) (moves : List Move) → AllByRecursion P ss → AreUses ss (Uses place n ∷ moves)
    → P (spent_of place n)
first-used P [] place n moves all uses = absurd uses
first-used P (s ∷ ss) place n moves all uses = go uses.0
  where
    go : IsUse s.place s.number (Uses place n) → P (spent_of place n)
    go (Counts is) =
        let places : place ≡ s.place = cc in
        let numbers : n ≡ s.number = cc in
        subst P (λ i. spent_of (sym places i) (sym numbers i)) all.0
    go (Seals_it key named iv is) = absurd (cc)

taken-used : (P : Spent → Type 0) (ss : List Spent) (event : Event) (step : Step) (request : Request) → taken_as step.verdict ≡ Some request
    → AllByRecursion P ss → AreUses ss (rest_of event step)
    → P (spent_of (place_answered request) request.id)
taken-used P ss event step request is all uses =
    first-used P ss (place_answered request) request.id (map (λ seal. Seals (key_iv seal)) step.seals) all
    (subst (λ moves. AreUses ss (moves ++ map (λ seal. Seals (key_iv seal)) step.seals)) (taken-moves event step.verdict step.seals request is) uses)

resting-untaken : {X : Type 0} (step : Step) (request : Request) → taken_as step.verdict ≡ Some request → Rests step → X
resting-untaken step request is rests = let both : None ≡ Some request = sym (idle-untaken step.verdict rests.idle) ∙ is in absurd (cc)

down-untaken : {X : Type 0} (step : Step) (request : Request) → taken_as step.verdict ≡ Some request → step.verdict ≡ out.Down → X
down-untaken step request is down = let both : None ≡ Some request = ap taken_as (sym down) ∙ is in absurd (cc)

-- ---- the peer

-- the peer's floor of an association is no less than this
record IsFloored (floor spir : ℕ) (past : List Turn) : Type 0 where
  pub slot : Slot
  pub holds : PeerHolds past spir slot
  pub from : floor ≤ slot.answered.floor

-- an end that answers by a window takes nothing below its floor
slot-from : (size : ℕ) (mine : List Turn) (test : Slot → Bool) (slot : Slot) (id : ℕ) → first_slot test (slots_by size mine) ≡ Some slot
    → IsNewRequest slot.answered.low (IsAnswered slot.answered) id → slot.answered.floor ≤ id
slot-from size mine test slot id is new =
    let turns : List Turn = since_entered slot.sa.spir mine in
    let stored : List KeptMessage = filter_map (turn_response peer_task slot.sa.spir) turns in
    let floor : ℕ = floor_of slot.sa.starts.ask (filter_map (turn_agreed peer_task slot.sa.spir) turns) in
    let same : slot.answered ≡ window_of_responses floor stored = ap (λ (s : Slot). s.answered) (slot-told size mine test slot is) in
    subst (λ (w : ResponseWindow). w.floor ≤ id) (sym same) (new_from_floor floor stored id
    (subst (λ (w : ResponseWindow). IsNewRequest w.low (IsAnswered w) id) same new))

answers-kind : (c : Counter) → counter_kind c ≡ counter_kind counter.Answer → c ≡ counter.Answer
answers-kind counter.EspOut same = absurd (cc)
answers-kind counter.EspIn same = absurd (cc)
answers-kind counter.Iv same = absurd (cc)
answers-kind counter.Ask same = absurd (cc)
answers-kind counter.Answer same = refl

abbrev name_at : CounterName → Place → CounterName
name_at none (Theirs name) = name
name_at none p = none

module _ (boxes : ℕ) (past : List Turn) (local : Explained boxes past) (floor : ℕ) (sa : Record) (floored : IsFloored floor sa.spir past) where
  abbrev name : CounterName
  name = peer_counter sa counter.Answer

  -- a number of that counter that the peer needs lies from the floor on
  abbrev LiesFrom : Spent → Type 0
  LiesFrom s = s.place ≡ Theirs name → floor ≤ s.number

  need-from : (need : PeerNeed past) → LiesFrom (spent_theirs need)
  need-from need at =
      let names : peer_counter need.slot.sa need.c ≡ name = ap (name_at name) at in
      let answers : need.c ≡ counter.Answer = answers-kind need.c (ap (λ (n : CounterName). n.kind) names) in
      let spirs : Some need.slot.sa.spir ≡ Some sa.spir =
      sym need.slot.sa.origin_is_own ∙ (ap (λ (n : CounterName). spir_of_origin n.origin) names ∙ sa.origin_is_own) in
      let spir : need.slot.sa.spir ≡ sa.spir = same_Some need.slot.sa.spir sa.spir spirs in
      let same_spir : floored.slot.sa.spir ≡ sa.spir =
      eqb-true floored.slot.sa.spir sa.spir (first-passes (is_association sa.spir) (slots_by (window_by past) (own Peer past)) floored.slot floored.holds) in
      let one : need.slot ≡ floored.slot =
      one-slot boxes past local need.test (is_association sa.spir) need.slot floored.slot need.is_first floored.holds (spir ∙ sym same_spir) in
      let is_open : IsOpenTo need.slot counter.Answer need.number = subst (λ c. IsOpenTo need.slot c need.number) answers need.is_open in
      let from : need.slot.answered.floor ≤ need.number = slot-from (window_by past) (own Peer past) need.test need.slot need.number need.is_first is_open.1 in
      let floors : need.slot.answered.floor ≡ floored.slot.answered.floor = ap (λ (s : Slot). s.answered.floor) one in
      let low : floor ≤ floored.slot.answered.floor = floored.from in
      omega (arith, from, floors, low)

  needs-from : (needs : List (PeerNeed past)) → AllByRecursion LiesFrom (map spent_theirs needs)
  needs-from [] = tt
  needs-from (need ∷ needs) = (need-from need, needs-from needs)

  peer-from : (turn : Turn) → IsByRule boxes past turn → is_by Peer turn ≡ true → (request : Request) → taken_in turn ≡ Some request
      → IsFrom (Theirs name) floor request
  peer-from turn explained mine request is at = go (deed-of boxes past turn explained local)
    where
      by : performer turn ≡ Some Peer
      by = is_end-true Peer (performer turn) mine

      go : Deed past turn.event turn.calls turn.step → floor ≤ request.id
      go (Rested none rests no_entry) = resting-untaken turn.step request is rests
      go (Asked asks) = resting-untaken turn.step request is asks.rests
      go (Ended member by_it none down ends quiet) = down-untaken turn.step request is down
      go (Used u) = not-both u.member (performer turn) u.by_it by
      go (Used_theirs u) = taken-used LiesFrom (map spent_theirs u.needs) turn.event turn.step request is (needs-from u.needs) u.uses_them at

-- the floor stays at least what it was
still-floored : (boxes : ℕ) (past : List Turn) (turn : Turn) → DoesTold boxes past turn → (floor spir : ℕ) → IsFloored floor spir past
    → IsFloored floor spir (turn ∷ past)
still-floored boxes past turn does floor spir old = by_test (is_by Peer turn) refl
  where
    by_test : (b : Bool) → is_by Peer turn ≡ b → IsFloored floor spir (turn ∷ past)
    by_test true mine =
        let more : old.slot.answered.floor ≤ (slot_after turn.moment (peer_task turn.event) turn.step old.slot).answered.floor =
        answered-more (agreed_in old.slot.sa.spir (peer_task turn.event) turn.step.verdict)
        (response_in old.slot.sa.spir (peer_task turn.event) turn.step) old.slot.answered in
        let low : floor ≤ old.slot.answered.floor = old.from in
        record {
          slot = slot_after turn.moment (peer_task turn.event) turn.step old.slot;
          holds = holds-own boxes past turn does mine spir old.slot old.holds;
          from = omega (arith, more, low);
        }
    by_test false other = record { slot = old.slot; holds = holds-other boxes past turn does other spir old.slot old.holds; from = old.from }

-- one more turn, whose request lies from the floor on where it is an own one
with-turn : (place : Place) (floor : ℕ) (turn : Turn) (later : List Turn) → ((request : Request) → taken_in turn ≡ Some request → IsFrom place floor request)
    → TakeFrom place floor later → TakeFrom place floor (turn ∷ later)
with-turn place floor turn later from rest = go (taken_in turn) refl
  where
    go : (x : Option Request) → taken_in turn ≡ x → AllByRecursion (IsFrom place floor) (cons_option x (filter_map taken_in later))
    go None e = rest
    go (Some request) e = (from request e, rest)

module _ (boxes : ℕ) (past : List Turn) (floor : ℕ) (sa : Record) (floored : IsFloored floor sa.spir past) where
  abbrev place : Place
  place = Theirs (peer_counter sa counter.Answer)

  peers-from : (later : List Turn) → Explained boxes (later ++ past) → TakeFrom place floor (own Peer later) × IsFloored floor sa.spir (later ++ past)
  peers-from [] local = (tt, floored)
  peers-from (turn ∷ later) local = by_test (peers-from later local.1) (is_by Peer turn) refl
    where
      by_test : TakeFrom place floor (own Peer later) × IsFloored floor sa.spir (later ++ past) → (b : Bool) → is_by Peer turn ≡ b
          → TakeFrom place floor (if is_by Peer turn then turn ∷ own Peer later else own Peer later) × IsFloored floor sa.spir (turn ∷ (later ++ past))
      by_test rest true mine = (
        subst (λ b. TakeFrom place floor (if b then turn ∷ own Peer later else own Peer later)) (sym mine)
            (with-turn place floor turn (own Peer later) (peer-from boxes (later ++ past) local.1 floor sa rest.1 turn local.0 mine) rest.0),
        still-floored boxes (later ++ past) turn (does-told boxes (later ++ past) turn local.0 local.1) floor sa.spir rest.1,
      )
      by_test rest false other = (
        subst (λ b. TakeFrom place floor (if b then turn ∷ own Peer later else own Peer later)) (sym other) rest.0,
        still-floored boxes (later ++ past) turn (does-told boxes (later ++ past) turn local.0 local.1) floor sa.spir rest.1,
      )

-- the earlier turns of a run that is explained are explained
pub before-explained : (boxes : ℕ) (later past : List Turn) → Explained boxes (later ++ past) → Explained boxes past
before-explained boxes [] past local = local
before-explained boxes (turn ∷ later) past local = before-explained boxes later past local.1

pub peer-takes-from : (boxes : ℕ) (later past : List Turn) (turn : Turn) → Explained boxes (later ++ turn ∷ past) → PeerTakesFrom later turn
peer-takes-from boxes later past turn local name p2 m2 delta unknown said =
    let done : PeerSynchronised past turn name p2 m2 delta unknown =
    peer-synchronised boxes past turn (before-explained boxes later (turn ∷ past) local) name p2 m2 delta unknown said in
    let is : m2 ≡ done.after.answered.floor = done.floor_said in
    let floored : IsFloored m2 done.before.sa.spir (turn ∷ past) = record { slot = done.after; holds = done.has; from = omega (arith, is) } in
    subst (λ n. TakeFrom (place_of n) m2 (own Peer later)) (sym done.named) (peers-from boxes (turn ∷ past) m2 done.before.sa floored later local).0

-- ---- a member

-- the floor of a member's holding is no less than this
record IsFlooredAt (floor member spir : ℕ) (past : List Turn) : Type 0 where
  pub held : Held
  pub holds : MemberHolds past member spir held
  pub from : floor ≤ held.answered.floor

held-from : (size spir : ℕ) (mine : List Turn) (held : Held) (id : ℕ) → held_by size mine spir ≡ Some held
    → IsNewRequest held.answered.low (IsAnswered held.answered) id → held.answered.floor ≤ id
held-from size spir mine held id is new = go (found (grant_of spir) mine) is
  where
    go : (x : Option Taken) → option_map (holding size spir mine) x ≡ Some held → held.answered.floor ≤ id
    go None is = absurd (cc)
    go (Some taken) is =
        let same : (holding size spir mine taken).answered ≡ held.answered = ap (λ (h : Held). h.answered) (same_Some (holding size spir mine taken) held is) in
        subst (λ (w : ResponseWindow). w.floor ≤ id) same (new_from_floor (floor_of taken.bases.answer (agreements_of spir mine))
        (filter_map (turn_response member_task spir) (since spir mine)) id
        (subst (λ (w : ResponseWindow). IsNewRequest w.low (IsAnswered w) id) (sym same) new))

-- what holds of the numbers that a member needs, and of all of pools, holds of those that it uses
module _ (P : Spent → Type 0) (pooled : (need : LotNeed) → P (spent_of (Pooled need.pool) need.number)) (past : List Turn) (event : Event) (calls : List Call)
    (step : Step) where
  abbrev UsesSuch : Type 0
  UsesSuch = (needed : List Spent) × AllByRecursion P needed × UsesIt needed event step

  lot-such : (needed : List Spent) (lot : Option LotNeed) (held : _) (rest : List Call) → AllByRecursion P needed
      → IsLotReady lot held rest (Rests step ⊎ UsesIt needed event step) (UsesIt (with_lot lot needed) event step)
      → Rests step ⊎ UsesSuch
  lot-such needed None held rest all last = inr (needed, all, last.is)
  lot-such needed (Some need) held rest all (Left h holds below is ended it) = inr (with_lot (Some need) needed, (pooled need, all), it)
  lot-such needed (Some need) held rest all (Leased call one asked sees it) = inr (with_lot (Some need) needed, (pooled need, all), it)
  lot-such needed (Some need) held rest all (InVain call why one asked sees so) = ⊎_elim (λ rests. inl rests) (λ it. inr (needed, all, it)) so

  used-such : (u : MemberUses past event calls step) → AllByRecursion P (map spent_by u.needs) → Rests step ⊎ UsesSuch
  used-such u all = are_ready-calls (λ calls. Rests step ⊎ UsesSuch) (Rests step) _
      (λ call rest cover is. is)
      (λ rest last. inl last.is)
      (λ rest so. lot-such (map spent_by u.needs) u.lot (lots_of past u.member) rest all so)
      u.needs calls u.ready

member-same : (a b : ℕ) (x : Option _) → x ≡ Some (Member a) → x ≡ Some (Member b) → a ≡ b
member-same a b x one other = let both : Some (Member a) ≡ Some (Member b) = sym one ∙ other in cc

module _ (boxes : ℕ) (past : List Turn) (local : Explained boxes past) (floor member spir : ℕ) (floored : IsFlooredAt floor member spir past) where
  abbrev LiesAt : Spent → Type 0
  LiesAt s = s.place ≡ Ours spir counter.Answer → floor ≤ s.number

  need-at : (need : Need past member) → LiesAt (spent_by need)
  need-at need at =
      let answers : need.c ≡ counter.Answer = cc in
      let spirs : need.held.sa.spir ≡ spir = cc in
      let is_held : held_by (window_by past) (own (Member member) past) spir ≡ Some need.held =
      subst (λ k. held_by (window_by past) (own (Member member) past) k ≡ Some need.held) spirs need.is_held in
      let one : need.held ≡ floored.held = same_Some need.held floored.held (sym is_held ∙ floored.holds) in
      let new : IsOpen need.held counter.Answer need.number = subst (λ c. IsOpen need.held c need.number) answers need.is_open in
      let from : need.held.answered.floor ≤ need.number = held-from (window_by past) spir (own (Member member) past) need.held need.number is_held new in
      let floors : need.held.answered.floor ≡ floored.held.answered.floor = ap (λ (h : Held). h.answered.floor) one in
      let low : floor ≤ floored.held.answered.floor = floored.from in
      omega (arith, from, floors, low)

  needs-at : (needs : List (Need past member)) → AllByRecursion LiesAt (map spent_by needs)
  needs-at [] = tt
  needs-at (need ∷ needs) = (need-at need, needs-at needs)

  member-from : (turn : Turn) → IsByRule boxes past turn → is_by (Member member) turn ≡ true → (request : Request) → taken_in turn ≡ Some request
      → IsFrom (Ours spir counter.Answer) floor request
  member-from turn explained mine request is at = go (deed-of boxes past turn explained local)
    where
      by : performer turn ≡ Some (Member member)
      by = is_end-true (Member member) (performer turn) mine

      its : (u : MemberUses past turn.event turn.calls turn.step) → (other : ℕ) → u.member ≡ other → AllByRecursion LiesAt (map spent_by u.needs)
          → floor ≤ request.id
      its u other same all = ⊎_elim
          (λ rests. resting-untaken turn.step request is rests)
          (λ such. taken-used LiesAt such.2.ss turn.event turn.step request is
          (all-among LiesAt such.2.ss such.0 such.1 such.2.were_needed) such.2.uses_them at)
          (used-such LiesAt (λ need at. absurd (cc)) past turn.event turn.calls turn.step u all)

      go : Deed past turn.event turn.calls turn.step → floor ≤ request.id
      go (Rested none rests no_entry) = resting-untaken turn.step request is rests
      go (Asked asks) = resting-untaken turn.step request is asks.rests
      go (Ended ended by_it none down ends quiet) = down-untaken turn.step request is down
      go (Used u) = its u member (member-same u.member member (performer turn) u.by_it by)
          (all-needs u.member (member-same u.member member (performer turn) u.by_it by) u.needs)
        where
          all-needs : (m : ℕ) → m ≡ member → (needs : List (Need past m)) → AllByRecursion LiesAt (map spent_by needs)
          all-needs m same = subst (λ k. (needs : List (Need past k)) → AllByRecursion LiesAt (map spent_by needs)) (sym same) needs-at
      go (Used_theirs u) = not-both member (performer turn) by u.by_it

-- the floor stays at least what it was, as long as the association is not granted again
module _ (boxes : ℕ) (past : List Turn) (turn : Turn) (does : DoesTold boxes past turn) (floor member spir : ℕ) (old : IsFlooredAt floor member spir past) where
  own-floored : is_by (Member member) turn ≡ true → grant_of spir turn ≡ None → IsFlooredAt floor member spir (turn ∷ past)
  own-floored mine none =
      let more : old.held.answered.floor ≤ (advanced spir (member_task turn.event) turn.calls turn.step old.held).answered.floor =
      answered-more (agreed_in spir (member_task turn.event) turn.step.verdict) (response_in spir (member_task turn.event) turn.step) old.held.answered in
      let low : floor ≤ old.held.answered.floor = old.from in
      record {
        held = advanced spir (member_task turn.event) turn.calls turn.step old.held;
        holds = held-own past turn member spir old.held mine none old.holds;
        from = omega (arith, more, low);
      }

  other-floored : is_by (Member member) turn ≡ false → IsFlooredAt floor member spir (turn ∷ past)
  other-floored other = record {
    held = old.held;
    holds = ap (λ b. held_by (window_by (turn ∷ past)) (if b then turn ∷ own (Member member) past else own (Member member) past) spir) other
        ∙ (other-config (λ config mine. held_by config.window mine spir) (Member member) boxes past turn does (λ c d. refl) ∙ old.holds);
    from = old.from;
  }

none-both : {X : Type 0} (x y : Option X) → first_some x y ≡ None → (x ≡ None) × (y ≡ None)
none-both None y none = (refl, none)
none-both (Some x) y none = absurd (cc)

module _ (boxes : ℕ) (past : List Turn) (floor member spir : ℕ) (floored : IsFlooredAt floor member spir past) where
  abbrev its_place : Place
  its_place = Ours spir counter.Answer

  abbrev mine_of : List Turn → List Turn
  mine_of turns = own (Member member) turns

  abbrev IsSo : List Turn → Type 0
  IsSo later = TakeFrom its_place floor (mine_of later) × IsFlooredAt floor member spir (later ++ past)

  members-from : (later : List Turn) → Explained boxes (later ++ past) → found (grant_of spir) (mine_of later) ≡ None → IsSo later
  members-from [] local none = (tt, floored)
  members-from (turn ∷ later) local none = by_test (members-from later local.1) (is_by (Member member) turn) refl
    where
      does : DoesTold boxes (later ++ past) turn
      does = does-told boxes (later ++ past) turn local.0 local.1

      by_test : (found (grant_of spir) (mine_of later) ≡ None → IsSo later) → (b : Bool) → is_by (Member member) turn ≡ b
          → TakeFrom its_place floor (if is_by (Member member) turn then turn ∷ mine_of later else mine_of later) × IsFlooredAt floor member spir
          (turn ∷ (later ++ past))
      by_test before true mine =
          let nones = none-both (grant_of spir turn) (found (grant_of spir) (mine_of later))
          (ap (λ b. found (grant_of spir) (if b then turn ∷ mine_of later else mine_of later)) (sym mine) ∙ none) in
          let rest : IsSo later = before nones.1 in (
            subst (λ b. TakeFrom its_place floor (if b then turn ∷ mine_of later else mine_of later)) (sym mine)
                (with-turn its_place floor turn (mine_of later) (member-from boxes (later ++ past) local.1 floor member spir rest.1 turn local.0 mine) rest.0),
            own-floored boxes (later ++ past) turn does floor member spir rest.1 mine nones.0,
          )
      by_test before false other =
          let rest : IsSo later = before (ap (λ b. found (grant_of spir) (if b then turn ∷ mine_of later else mine_of later)) (sym other) ∙ none) in (
            subst (λ b. TakeFrom its_place floor (if b then turn ∷ mine_of later else mine_of later)) (sym other) rest.0,
            other-floored boxes (later ++ past) turn does floor member spir rest.1 other,
          )

pub member-takes-from : (boxes : ℕ) (later past : List Turn) (turn : Turn) → Explained boxes (later ++ turn ∷ past) → MemberTakesFrom later turn
member-takes-from boxes later past turn local member spir name next floor by said at none =
    let done : MemberSynchronised past turn name next floor =
    member-synchronised boxes past turn (before-explained boxes later (turn ∷ past) local) name next floor said in
    let same : done.member ≡ member = member-same done.member member (performer turn) done.by_member by in
    let places : Ours done.before.sa.spir counter.Answer ≡ Ours spir counter.Answer =
    sym (place-ours done.before.sa counter.Answer) ∙ (ap place_of (sym done.named) ∙ at) in
    let spirs : done.before.sa.spir ≡ spir = cc in
    let is : floor ≡ done.after.answered.floor = done.floor_said in
    let has : MemberHolds (turn ∷ past) member spir done.after =
    subst (λ m. MemberHolds (turn ∷ past) m spir done.after) same (subst (λ s. MemberHolds (turn ∷ past) done.member s done.after) spirs done.has) in
    let floored : IsFlooredAt floor member spir (turn ∷ past) = record { held = done.after; holds = has; from = omega (arith, is) } in
    subst (λ p. TakeFrom p floor (own (Member member) later)) (sym at) (members-from boxes (turn ∷ past) floor member spir floored later local none).0
