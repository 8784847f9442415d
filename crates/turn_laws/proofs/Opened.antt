-- The peer may use the numbers that are open to it: the next one that it sends, and those that its window takes.
use Rattle.std.proofs.Common.{◌≡◌, ◌≢◌, ℕ, ◌+◌, ◌<◌, ◌≤◌, ◌==◌, ◌&&◌, Bool, true, false, Option, Some, None, List, [], ◌∷◌, ◌++◌, map, option_to_list, append-nil, refl, ap, sym, ◌∙◌, subst, if◌then◌else◌, ⊎_elim, arith}
use Rattle.std.specs.Prelude.{is_some, reverse}
use Rattle.std.proofs.lemmas.Bool.{eq-eqb, eqb-false, eqb-true, ne_eqb}
use Rattle.std.proofs.lemmas.Option.{same_Some}
use Rattle.std.specs.List.{AllByRecursion, cons_option, filter_map, flat_map}
use Rattle.std.specs.Option.{option_map}
use Rattle.events.specs.declared.turn.Turn.{Turn}
use Rattle.ha_base.specs.declared.counter_names.CounterName.{CounterName}
use Rattle.keeper_book.specs.CounterEnds.{end_of}
use Rattle.keeper_book.specs.Records.{spir_of_origin}
use Rattle.keeper_book.specs.declared.counters.Counter.{Counter}
use Rattle.keeper_book.specs.declared.counters.Counter.TheVariants as counter
use Rattle.keeper_book.specs.declared.records.Record.{Record}
use Rattle.replay_set.specs.Window.{judged}
use Rattle.replay_set.specs.declared.judgement.Judgement.TheVariants as judgement
use Rattle.ike_window.specs.Requests.{IsNewRequest}
use Rattle.ike_window.specs.Windows.{IsAnswered, ResponseWindow}
use Rattle.turn_laws.proofs.Answered.{answered-peer, ids-answered, new-unused, since_entered-all}
use Rattle.turn_rules.specs.IkeState.{turn_agreed, turn_response}
use Rattle.turn_rules.specs.Tasks.{peer_task}
use Rattle.turn_laws.proofs.Moved.{rest-listed}
use Rattle.turn_laws.proofs.Deeds.{Asked, Deed, Ended, IsAnswering, IsOpenTo, PeerUses, Rested, Rests, Used, Used_theirs, number_theirs_of, rest_of, PeerNeed, spent_theirs, IsOfOne, spent_by_spir}
use Rattle.turn_laws.proofs.Listed.{moved}
use Rattle.turn_laws.proofs.Lists.{all-append, all-both, all-filter}
use Rattle.turn_laws.proofs.Names.{begun-same}
use Rattle.turn_laws.proofs.Outcomes.{idle-received, idle-theirs, rests-rest}
use Rattle.turn_laws.proofs.Records.{answering-run, deed-of}
use Rattle.turn_laws.proofs.Begun.{begun-spir}
use Rattle.turn_laws.proofs.Same.{is_name-true, is_origin-same}
use Rattle.turn_laws.proofs.Theirs.{no-packet, not-both, told_theirs-held}
use Rattle.turn_laws.proofs.Members.{is_end-true}
use Rattle.turn_laws.proofs.Runs.{greatest-least}
use Rattle.turn_laws.proofs.Tells.{floor-base}
use Rattle.turn_laws.proofs.Unused.{fresh-unused, next-unused}
use Rattle.turn_rules.specs.Synchronised.{Agreed, after_rise}
use Rattle.turn_laws.proofs.Uses.{number_at, uses-moved, spent_at}
use Rattle.turn_laws.proofs.Well.{PeerMayUse}
use Rattle.turn_laws.specs.Acts.{HoldsFor, begun_by, begun_theirs, holding_at}
use Rattle.turn_laws.specs.Holdings.{End, Holding, IsNotIn}
use Rattle.turn_laws.specs.Listed.{listed_at}
use Rattle.turn_laws.specs.Names.{is_kind, is_name, is_origin}
use Rattle.turn_laws.specs.PeerTurns.{begun_in, having_used, since_begun}
use Rattle.turn_laws.specs.Places.{Theirs, place_of, start_of, Ours}
use Rattle.turn_laws.specs.Turns.{acts_of}
use Rattle.turn_rules.proofs.SlotTies.{all-weaker, first-has, records-slots_by}
use Rattle.turn_rules.proofs.StateLaws.{associations-apart}
use Rattle.turn_rules.specs.Draws.{child_of, counter_kind}
use Rattle.turn_rules.specs.Ends.{Peer, is_by, own, performer}
use Rattle.turn_rules.specs.Held.{after_number, first_some, floor_of, found, greatest, is_counter, received_of, window_by}
use Rattle.turn_rules.specs.Local.{Explained}
use Rattle.turn_rules.specs.Peers.{AreDistinct, Differ, associations_by, entered_in}
use Rattle.turn_rules.specs.Safe.{Packet, accepted_in}
use Rattle.turn_rules.specs.Slots.{Slot, first_slot, is_entered, left_of, next_sent, peer_counter, sent_of, since_entered, slot_by, slots_by}

-- a packet that the peer received in an association is of its counter
abbrev pub IsNamed : Record → Turn → Type 0
IsNamed sa turn = (n : ℕ) (packet : Packet) → received_of sa.spir turn ≡ Some n → accepted_in turn ≡ Some packet → place_of packet.name ≡ Theirs (peer_counter sa counter.EspIn)

apart-before : (xs : List Record) (sa : Record) → AreDistinct (xs ++ sa ∷ []) → AreDistinct xs × AllByRecursion (λ x. Differ x sa) xs
apart-before [] sa apart = (tt, tt)
apart-before (x ∷ xs) sa apart =
    let rest : AreDistinct xs × AllByRecursion (λ x. Differ x sa) xs = apart-before xs sa apart.1 in
    let first : AllByRecursion (Differ x) xs × Differ x sa = split xs apart.0 in
    ((first.0, rest.0), (first.1, rest.1))
  where
    split : (xs : List Record) → AllByRecursion (Differ x) (xs ++ sa ∷ []) → AllByRecursion (Differ x) xs × Differ x sa
    split [] all = (tt, all.0)
    split (y ∷ ys) all = let rest : AllByRecursion (Differ x) ys × Differ x sa = split ys all.1 in ((all.0, rest.0), rest.1)

-- two of them with one responder's SPI are the same
abbrev pub SameBySpir : Record → Record → Type 0
SameBySpir a b = a.spir ≡ b.spir → a ≡ b

pub distinct-same : (xs : List Record) → AreDistinct xs → AllByRecursion (λ a. AllByRecursion (SameBySpir a) xs) xs
distinct-same [] apart = tt
distinct-same (x ∷ xs) apart = (
  ((λ same. refl), all-weaker xs (λ y differ same. absurd (differ same)) apart.0),
  all-both xs (λ a differ rest. ((λ same. absurd (differ (sym same))), rest)) apart.0 (distinct-same xs apart.1),
)

-- two counters of the peer are the same where their names are
names-same : (sa other : Record) (c d : Counter) → SameBySpir other sa → is_name (peer_counter other d) (peer_counter sa c) ≡ ((other.spir == sa.spir) && is_counter d c)
names-same sa other c d by_spir = by_test (other.spir == sa.spir) refl
  where
    kinds : (d c : Counter) → (is_kind (counter_kind d) (counter_kind c) && ((child_of d == child_of c) && true)) ≡ is_counter d c
    kinds counter.EspOut counter.EspOut = refl
    kinds counter.EspIn counter.EspIn = refl
    kinds counter.Iv counter.Iv = refl
    kinds counter.Ask counter.Ask = refl
    kinds counter.Answer counter.Answer = refl
    kinds d c = refl

    not_named : (other.spir ≢ sa.spir) → (b : Bool) → is_name (peer_counter other d) (peer_counter sa c) ≡ b → b ≡ false
    not_named differs false t = refl
    not_named differs true t =
        let same : peer_counter other d ≡ peer_counter sa c = is_name-true (peer_counter other d) (peer_counter sa c) t in
        let spirs : Some other.spir ≡ Some sa.spir = sym other.origin_is_own ∙ (ap (λ (n : CounterName). spir_of_origin n.origin) same ∙ sa.origin_is_own) in
        absurd (differs (same_Some other.spir sa.spir spirs))

    by_test : (b : Bool) → (other.spir == sa.spir) ≡ b → is_name (peer_counter other d) (peer_counter sa c) ≡ (b && is_counter d c)
    by_test true t =
        let origins : other.origin ≡ sa.origin = ap (λ (r : Record). r.origin) (by_spir (eqb-true other.spir sa.spir t)) in
        let here : is_origin other.origin sa.origin ≡ true = subst (λ o. is_origin other.origin o ≡ true) origins (is_origin-same other.origin) in
        rw here (kinds d c)
    by_test false t = not_named (eqb-false other.spir sa.spir t) (is_name (peer_counter other d) (peer_counter sa c)) refl

-- what the peer's own turns say of an association by its responder's SPI is what they say under its names
pub record IsTold (mine : List Turn) (c : Counter) (sa : Record) : Type 0 where
  pub began : found (begun_in (peer_counter sa c)) mine ≡ Some (begun_theirs c sa)
  pub numbers : flat_map (listed_at (Theirs (peer_counter sa c))) (since_begun (peer_counter sa c) mine) ≡ filter_map (number_theirs_of sa.spir c) (since_entered sa.spir mine)
  pub named : AllByRecursion (IsNamed sa) (since_entered sa.spir mine)

-- so it is of one turn
record TellsBoth (c : Counter) (turn : Turn) (sa : Record) : Type 0 where
  pub numbers : listed_at (Theirs (peer_counter sa c)) turn ≡ option_to_list (number_theirs_of sa.spir c turn)
  pub named : IsNamed sa turn

reverse-option : (x : Option ℕ) → reverse (cons_option x []) ≡ option_to_list x
reverse-option None = refl
reverse-option (Some n) = refl

module _ (past : List Turn) (turn : Turn) (c : Counter) (sa : Record) where
  idle-both : Rests turn.step → TellsBoth c turn sa
  idle-both rests = record {
    numbers = sym (rest-listed (Theirs (peer_counter sa c)) turn)
        ∙ (ap (λ moves. reverse (moved (Theirs (peer_counter sa c)) moves)) (rests-rest turn.event turn.step rests)
        ∙ ap option_to_list (sym (idle-theirs sa.spir c turn.event turn.step rests)));
    named = λ n packet is accepted. absurd (no-packet n (sym (idle-received sa.spir turn.event turn.step.verdict rests.idle) ∙ is));
  }

  -- each number that the peer needs is one of the association by its names where it is one by its SPI
  abbrev AreSameBySpir : List (PeerNeed past) → Type 0
  AreSameBySpir needs = AllByRecursion (λ need. SameBySpir need.slot.sa sa) needs

  spent-same : (needs : List (PeerNeed past)) → AreSameBySpir needs → spent_at (Theirs (peer_counter sa c)) (map spent_theirs needs) ≡ spent_at (Ours sa.spir c) (map spent_by_spir needs)
  spent-same [] all = refl
  spent-same (need ∷ needs) all =
      ap (λ b. cons_option (if b then Some need.number else None) (spent_at (Theirs (peer_counter sa c)) (map spent_theirs needs))) (names-same sa need.slot.sa c need.c all.0)
      ∙ ap (cons_option (number_at (Ours sa.spir c) (Ours need.slot.sa.spir need.c) need.number)) (spent-same needs all.1)

  named-same : (packet : Packet) (needs : List (PeerNeed past)) → AreSameBySpir needs → IsOfOne packet sa.spir needs → place_of packet.name ≡ Theirs (peer_counter sa counter.EspIn)
  named-same packet [] all is = absurd is
  named-same packet (need ∷ needs) all is = ⊎_elim
      (λ one. one.1 ∙ ap (λ (r : Record). Theirs (peer_counter r counter.EspIn)) (all.0 one.0))
      (λ more. named-same packet needs all.1 more)
      is

  reverse-listed : (x : Option ℕ) → reverse (option_to_list x) ≡ option_to_list x
  reverse-listed None = refl
  reverse-listed (Some n) = refl

  used-both : (u : PeerUses past turn.event turn.calls turn.step) → AreSameBySpir u.needs → TellsBoth c turn sa
  used-both u by_spir = record {
    numbers = sym (rest-listed (Theirs (peer_counter sa c)) turn)
        ∙ (ap reverse (uses-moved (Theirs (peer_counter sa c)) (map spent_theirs u.needs) (rest_of turn.event turn.step) u.uses_them
        ∙ (spent-same u.needs by_spir ∙ u.told sa.spir c))
        ∙ reverse-listed (number_theirs_of sa.spir c turn));
    named = λ n packet is accepted. named-same packet u.needs by_spir (u.named packet accepted sa.spir n is);
  }

-- what holds of all of a list for each of another one
all-swapped : {X Y : Type 0} (R : Y → X → Type 0) (ys : List Y) (xs : List X) → AllByRecursion (λ y. AllByRecursion (R y) xs) ys → AllByRecursion (λ x. AllByRecursion (λ y. R y x) ys) xs
all-swapped R [] xs all = each xs
  where
    each : {X : Type 0} (xs : List X) → AllByRecursion (λ x. Unit {0}) xs
    each [] = tt
    each (x ∷ xs) = (tt, each xs)
all-swapped R (y ∷ ys) xs all = all-both xs (λ x one more. (one, more)) all.0 (all-swapped R ys xs all.1)

-- of each association that the peer had before
peer-both : (boxes : ℕ) (past : List Turn) (turn : Turn) → Explained boxes past → Deed past turn.event turn.calls turn.step → performer turn ≡ Some Peer → (c : Counter) → AllByRecursion (TellsBoth c turn) (associations_by (own Peer past))
peer-both boxes past turn local deed by c = go deed
  where
    each : ((sa : Record) → TellsBoth c turn sa) → (xs : List Record) → AllByRecursion (TellsBoth c turn) xs
    each f [] = tt
    each f (x ∷ xs) = (f x, each f xs)

    go : Deed past turn.event turn.calls turn.step → AllByRecursion (TellsBoth c turn) (associations_by (own Peer past))
    go (Rested none rests no_entry) = each (λ sa. idle-both past turn c sa rests) (associations_by (own Peer past))
    go (Asked asks) = each (λ sa. idle-both past turn c sa asks.rests) (associations_by (own Peer past))
    go (Ended member by_it none said ends quiet) = not-both member (performer turn) by_it by
    go (Used u) = not-both u.member (performer turn) u.by_it by
    go (Used_theirs u) = all-weaker (associations_by (own Peer past)) (λ sa. used-both past turn c sa u)
        (all-swapped (λ need. SameBySpir need.slot.sa) u.needs (associations_by (own Peer past)) (needed u.needs))
      where
        needed : (needs : List (PeerNeed past)) → AllByRecursion (λ need. AllByRecursion (SameBySpir need.slot.sa) (associations_by (own Peer past))) needs
        needed [] = tt
        needed (need ∷ needs) = (
          first-has (λ a. AllByRecursion (SameBySpir a) (associations_by (own Peer past))) need.test (slots_by (window_by past) (own Peer past)) need.slot
              (subst (λ list. AllByRecursion (λ a. AllByRecursion (SameBySpir a) (associations_by (own Peer past))) list) (sym (records-slots_by (window_by past) (own Peer past))) (distinct-same (associations_by (own Peer past)) (associations-apart boxes past local)))
              need.is_first,
          needed needs,
        )

module _ (mine : List Turn) (turn : Turn) (c : Counter) where
  -- an association that came before, after one more turn in which another one came, or none
  still-told : (sa : Record) (x : Option Record) → entered_in turn ≡ x → ((new : Record) → x ≡ Some new → Differ sa new) → IsTold mine c sa → TellsBoth c turn sa → IsTold (turn ∷ mine) c sa
  still-told sa x entered differs told both = record {
    began = ap (λ y. first_some y (found (begun_in (peer_counter sa c)) mine)) none ∙ told.began;
    numbers = ap (λ y. flat_map (listed_at (Theirs (peer_counter sa c))) (if is_some y then [] else turn ∷ since_begun (peer_counter sa c) mine)) none
        ∙ (ap (λ ns. ns ++ flat_map (listed_at (Theirs (peer_counter sa c))) (since_begun (peer_counter sa c) mine)) both.numbers
        ∙ (ap (λ ns. option_to_list (number_theirs_of sa.spir c turn) ++ ns) told.numbers
        ∙ (cons-option (number_theirs_of sa.spir c turn) (filter_map (number_theirs_of sa.spir c) (since_entered sa.spir mine))
        ∙ ap (λ b. filter_map (number_theirs_of sa.spir c) (if b then [] else turn ∷ since_entered sa.spir mine)) (sym other))));
    named = subst (λ b. AllByRecursion (IsNamed sa) (if b then [] else turn ∷ since_entered sa.spir mine)) (sym other) (both.named, told.named);
  }
    where
      cons-option : (y : Option ℕ) (ns : List ℕ) → option_to_list y ++ ns ≡ cons_option y ns
      cons-option None ns = refl
      cons-option (Some n) ns = refl

      other-spir : (y : Option Record) → x ≡ y → is_entered sa.spir y ≡ false
      other-spir None e = refl
      other-spir (Some new) e = ne_eqb new.spir sa.spir (λ same. (differs new e) (sym same))

      other : is_entered sa.spir (entered_in turn) ≡ false
      other = ap (is_entered sa.spir) entered ∙ other-spir x refl

      not-begun : (y : Option Record) → x ≡ y → (h : Option Holding) → begun_by (peer_counter sa c) y ≡ h → h ≡ None
      not-begun y e None is = refl
      not-begun None e (Some h) is = absurd (cc)
      not-begun (Some new) e (Some h) is = absurd ((differs new e) (same_Some sa.spir new.spir (sym sa.origin_is_own ∙ begun-spir (peer_counter sa c) new h is)))

      none : begun_in (peer_counter sa c) turn ≡ None
      none = ap (begun_by (peer_counter sa c)) entered ∙ not-begun x refl (begun_by (peer_counter sa c) x) refl

  -- and one that came in the turn
  new-told : (sa : Record) → entered_in turn ≡ Some sa → IsTold (turn ∷ mine) c sa
  new-told sa entered = record {
    began = ap (λ y. first_some y (found (begun_in (peer_counter sa c)) mine)) begins;
    numbers = ap (λ y. flat_map (listed_at (Theirs (peer_counter sa c))) (if is_some y then [] else turn ∷ since_begun (peer_counter sa c) mine)) begins
        ∙ ap (λ b. filter_map (number_theirs_of sa.spir c) (if b then [] else turn ∷ since_entered sa.spir mine)) (sym here);
    named = subst (λ b. AllByRecursion (IsNamed sa) (if b then [] else turn ∷ since_entered sa.spir mine)) (sym here) tt;
  }
    where
      here : is_entered sa.spir (entered_in turn) ≡ true
      here = ap (is_entered sa.spir) entered ∙ eq-eqb sa.spir sa.spir refl

      begins : begun_in (peer_counter sa c) turn ≡ Some (begun_theirs c sa)
      begins = ap (begun_by (peer_counter sa c)) entered ∙ begun-same sa c

-- each association of the peer is told so
pub all-told : (boxes : ℕ) (past : List Turn) → Explained boxes past → (c : Counter) → AllByRecursion (IsTold (own Peer past) c) (associations_by (own Peer past))
all-told boxes [] local c = tt
all-told boxes (turn ∷ past) local c = by_test (all-told boxes past local.1 c) (is_by Peer turn) refl (associations-apart boxes (turn ∷ past) local)
  where
    mine : List Turn
    mine = own Peer past

    by_entry : AllByRecursion (IsTold mine c) (associations_by mine) → AllByRecursion (TellsBoth c turn) (associations_by mine) → (x : Option Record) → entered_in turn ≡ x → AreDistinct (associations_by mine ++ option_to_list x)
        → AllByRecursion (IsTold (turn ∷ mine) c) (associations_by mine ++ option_to_list x)
    by_entry before both None e apart = all-append (IsTold (turn ∷ mine) c) (associations_by mine) []
        (all-both (associations_by mine) (λ sa told tells. still-told mine turn c sa None e (λ new is. absurd (cc)) told tells) before both)
        tt
    by_entry before both (Some new) e apart =
        let parts : AreDistinct (associations_by mine) × AllByRecursion (λ x. Differ x new) (associations_by mine) = apart-before (associations_by mine) new apart in
        all-append (IsTold (turn ∷ mine) c) (associations_by mine) (new ∷ [])
        (all-both {Q = λ sa. TellsBoth c turn sa × Differ sa new} (associations_by mine) (λ sa told more. still-told mine turn c sa (Some new) e (λ other is. subst (λ r. Differ sa r) (same_Some new other is) more.1) told more.0) before
        (all-both (associations_by mine) (λ sa tells differ. (tells, differ)) both parts.1))
        (new-told mine turn c new e, tt)

    by_test : AllByRecursion (IsTold mine c) (associations_by mine) → (b : Bool) → is_by Peer turn ≡ b → AreDistinct (associations_by (if is_by Peer turn then turn ∷ mine else mine))
        → AllByRecursion (IsTold (if is_by Peer turn then turn ∷ mine else mine) c) (associations_by (if is_by Peer turn then turn ∷ mine else mine))
    by_test before true t apart = subst (λ b. AllByRecursion (IsTold (if b then turn ∷ mine else mine) c) (associations_by (if b then turn ∷ mine else mine))) (sym t)
        (by_entry before (peer-both boxes past turn local.1 (deed-of boxes past turn local.0 local.1) (is_end-true Peer (performer turn) t) c) (entered_in turn) refl
        (subst (λ b. AreDistinct (associations_by (if b then turn ∷ mine else mine))) t apart))
    by_test before false t apart = subst (λ b. AllByRecursion (IsTold (if b then turn ∷ mine else mine) c) (associations_by (if b then turn ∷ mine else mine))) (sym t) before

-- each number that the peer sent lies below the one that it sends next
sent-within : (spir start : ℕ) (turns : List Turn) → greatest start (map (λ k. k + 1) (filter_map (sent_of spir) turns)) ≤ next_sent spir start turns
sent-within spir start [] = omega arith
sent-within spir start (turn ∷ turns) = go (turn_agreed peer_task spir turn) (sent_of spir turn) (sent-within spir start turns)
  where
    go : (agreed : Option Agreed) (sent : Option ℕ) → greatest start (map (λ k. k + 1) (filter_map (sent_of spir) turns)) ≤ next_sent spir start turns
        → greatest start (map (λ k. k + 1) (cons_option sent (filter_map (sent_of spir) turns))) ≤ after_rise agreed (after_number sent (next_sent spir start turns))
    go None None below = below
    go None (Some n) below = omega (arith, below)
    go (Some agreed) None below = omega (arith, below)
    go (Some agreed) (Some n) below = omega (arith, below)

slot-among : (size : ℕ) (past : List Turn) (test : Slot → Bool) (slot : Slot) (associations : List Record) → first_slot test (map (slot_by size past) associations) ≡ Some slot → slot ≡ slot_by size past slot.sa
slot-among size past test slot [] is = absurd (cc)
slot-among size past test slot (sa ∷ more) is = by_test (slot-among size past test slot more) (test (slot_by size past sa)) refl
  where
    by_test : (first_slot test (map (slot_by size past) more) ≡ Some slot → slot ≡ slot_by size past slot.sa) → (b : Bool) → test (slot_by size past sa) ≡ b → slot ≡ slot_by size past slot.sa
    by_test later true t =
        let same : slot_by size past sa ≡ slot = same_Some (slot_by size past sa) slot (ap (λ b. if b then Some (slot_by size past sa) else first_slot test (map (slot_by size past) more)) (sym t) ∙ is) in
        sym same ∙ ap (λ (s : Slot). slot_by size past s.sa) same
    by_test later false t = later (ap (λ b. if b then Some (slot_by size past sa) else first_slot test (map (slot_by size past) more)) (sym t) ∙ is)

-- a slot is what the peer's own turns say of its association
pub slot-told : (size : ℕ) (past : List Turn) (test : Slot → Bool) (slot : Slot) → first_slot test (slots_by size past) ≡ Some slot → slot ≡ slot_by size past slot.sa
slot-told size past test slot found = slot-among size past test slot (associations_by past) found

module _ (boxes : ℕ) (past : List Turn) (local : Explained boxes past) (test : Slot → Bool) (slot : Slot) (is : first_slot test (slots_by (window_by past) (own Peer past)) ≡ Some slot) where
  abbrev numbers : Counter → List ℕ
  numbers c = filter_map (number_theirs_of slot.sa.spir c) (since_entered slot.sa.spir (own Peer past))

  abbrev its_holding : Counter → Holding
  its_holding c = having_used (numbers c) (begun_theirs c slot.sa)

  pub its-told : (c : Counter) → IsTold (own Peer past) c slot.sa
  its-told c = first-has (IsTold (own Peer past) c) test (slots_by (window_by past) (own Peer past)) slot
      (subst (λ list. AllByRecursion (IsTold (own Peer past) c) list) (sym (records-slots_by (window_by past) (own Peer past))) (all-told boxes past local c))
      is

  holds_it : (c : Counter) → holding_at (Theirs (peer_counter slot.sa c)) (acts_of past) (End Peer) ≡ Some (its_holding c)
  holds_it c =
      sym (told_theirs-held boxes past local (peer_counter slot.sa c))
      ∙ (ap (option_map (having_used (flat_map (listed_at (Theirs (peer_counter slot.sa c))) (since_begun (peer_counter slot.sa c) (own Peer past))))) (its-told c).began
      ∙ ap (λ ns. Some (having_used ns (begun_theirs c slot.sa))) (its-told c).numbers)

  may-use-it : (c : Counter) (n : ℕ) → n < end_of slot.sa c → (start_of slot.sa c ≤ n) × IsNotIn n (numbers c) → HoldsFor (holding_at (Theirs (peer_counter slot.sa c)) (acts_of past) (End Peer)) n
  may-use-it c n below unused = record {
    holding = its_holding c;
    holds = holds_it c;
    may = record {
      from_base = unused.0;
      below_high = below;
      unused = subst (λ ns. IsNotIn n ns) (sym (append-nil (numbers c))) unused.1;
    };
  }

  abbrev MayUseOf : Counter → ℕ → Type 0
  MayUseOf c n = HoldsFor (holding_at (Theirs (peer_counter slot.sa c)) (acts_of past) (End Peer)) n

  told_slot : slot ≡ slot_by (window_by past) (own Peer past) slot.sa
  told_slot = slot-told (window_by past) (own Peer past) test slot is

  -- the peer may use the next number of a counter by which it sends
  may-use-next : (c : Counter) (next n : ℕ) → greatest (start_of slot.sa c) (map (λ k. k + 1) (numbers c)) ≤ next → (n ≡ next) × (n < end_of slot.sa c) → MayUseOf c n
  may-use-next c next n above is_open = may-use-it c n is_open.1 (next-unused (start_of slot.sa c) n (numbers c) (let is : n ≡ next = is_open.0 in omega (arith, above, is)))

  abbrev its_turns : List Turn
  its_turns = since_entered slot.sa.spir (own Peer past)

  pub peer-may-send : (n : ℕ) → IsOpenTo slot counter.EspOut n → MayUseOf counter.EspOut n
  peer-may-send n is_open =
      let is : slot.next ≡ next_sent slot.sa.spir slot.sa.starts.esp_in its_turns = ap (λ (s : Slot). s.next) told_slot in
      let sends : greatest slot.sa.starts.esp_in (map (λ k. k + 1) (numbers counter.EspOut)) ≤ next_sent slot.sa.spir slot.sa.starts.esp_in its_turns = sent-within slot.sa.spir slot.sa.starts.esp_in its_turns in
      may-use-next counter.EspOut slot.next n (omega (arith, is, sends)) is_open

  pub peer-may-seal : (n : ℕ) → IsOpenTo slot counter.Iv n → MayUseOf counter.Iv n
  peer-may-seal n is_open =
      let is : slot.iv ≡ greatest slot.sa.starts.iv (map (λ k. k + 1) (numbers counter.Iv)) = ap (λ (s : Slot). s.iv) told_slot in
      may-use-next counter.Iv slot.iv n (omega (arith, is)) is_open

  pub peer-may-ask : (n : ℕ) → IsOpenTo slot counter.Ask n → MayUseOf counter.Ask n
  peer-may-ask n is_open =
      let used : ℕ = greatest slot.sa.starts.answer (map (λ k. k + 1) (numbers counter.Ask)) in
      let is : slot.ask ≡ greatest used (filter_map (left_of slot.sa.spir counter.Ask) its_turns) = ap (λ (s : Slot). s.ask) told_slot in
      let jumps : used ≤ greatest used (filter_map (left_of slot.sa.spir counter.Ask) its_turns) = greatest-least used (filter_map (left_of slot.sa.spir counter.Ask) its_turns) in
      may-use-next counter.Ask slot.ask n (omega (arith, is, jumps)) is_open

  -- and the Message ID of each new request
  pub peer-may-answer : (n : ℕ) → IsOpenTo slot counter.Answer n → MayUseOf counter.Answer n
  peer-may-answer n is_open =
      let agreements : List Agreed = filter_map (turn_agreed peer_task slot.sa.spir) its_turns in
      let unused : (floor_of slot.sa.starts.ask agreements ≤ n) × IsNotIn n (numbers counter.Answer) =
      new-unused (floor_of slot.sa.starts.ask agreements) n (filter_map (turn_response peer_task slot.sa.spir) its_turns) (numbers counter.Answer)
      (ids-answered peer_task answered-peer slot.sa.spir its_turns
      (since_entered-all (λ turn. IsAnswering turn.step) slot.sa.spir (own Peer past) (all-filter (λ (turn : Turn). IsAnswering turn.step) (is_by Peer) past (answering-run boxes past local))))
      (subst (λ (w : ResponseWindow). IsNewRequest w.low (IsAnswered w) n) (ap (λ (s : Slot). s.answered) told_slot) is_open.1) in
      may-use-it counter.Answer n is_open.0 (floor-base slot.sa.starts.ask n agreements unused.0, unused.1)

  -- and each number that its window takes
  peer-may-take : (n : ℕ) → n < end_of slot.sa counter.EspIn → judged slot.window n ≡ judgement.Fresh → HoldsFor (holding_at (Theirs (peer_counter slot.sa counter.EspIn)) (acts_of past) (End Peer)) n
  peer-may-take n below fresh = may-use-it counter.EspIn n below
      (fresh-unused (window_by past) slot.sa.starts.esp_out n (numbers counter.EspIn)
      (subst (λ window. judged window n ≡ judgement.Fresh) (ap (λ (s : Slot). s.window) (slot-told (window_by past) (own Peer past) test slot is)) fresh))

-- the peer may use the numbers that are open to it
pub peer-may : (boxes : ℕ) (past : List Turn) → Explained boxes past → PeerMayUse past (acts_of past)
peer-may boxes past local test slot is_first counter.EspOut n is_open = peer-may-send boxes past local test slot is_first n is_open
peer-may boxes past local test slot is_first counter.EspIn n is_open = peer-may-take boxes past local test slot is_first n is_open.0 is_open.1
peer-may boxes past local test slot is_first counter.Iv n is_open = peer-may-seal boxes past local test slot is_first n is_open
peer-may boxes past local test slot is_first counter.Ask n is_open = peer-may-ask boxes past local test slot is_first n is_open
peer-may boxes past local test slot is_first counter.Answer n is_open = peer-may-answer boxes past local test slot is_first n is_open
