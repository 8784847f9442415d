-- Messages in the slots of a ring.
use Rattle.std.proofs.Common.{◌≡◌, ◌≢◌, ℕ, zero, suc, ◌+◌, ◌*◌, ◌/◌, ◌%◌, ◌<◌, ◌≤◌, ◌⊎◌, inl, inr, Bool, true, false, cond, nat_le, ◌==◌, if◌then◌else◌, List, [], ◌∷◌, filter, length, get_or, set, Option, Some, None, is_some, MatchOption, refl, sym, ap, ◌∙◌, arith, eq-eqb}
use Rattle.std.specs.Prelude.{map}
use Rattle.std.proofs.Math.Nat.{div-add-mod, mod-lt}
use Rattle.std.proofs.lemmas.Bool.{cases_eq, cases_lt, ne_eqb}
use Rattle.std.proofs.lemmas.List.{get_or-map, get_or_default, get_or-set_other, get_or-set_same, length-map, length-set}
use Rattle.ike_window.specs.Kept.{KeptMessage, RiseFrom, kept_octets}
use Rattle.ike_window.specs.Slots.{IsRing, in_front, from_on, messages_from, octets_at, octets_in_slot}
use Rattle.ike_window.proofs.Orders.{rise_lower}

pub octets_here : (message : KeptMessage) (rest : List KeptMessage) → kept_octets message.id (message ∷ rest) ≡ Some message.octets
octets_here message rest = rw (eq-eqb message.id message.id refl) refl

pub octets_later : (message : KeptMessage) (rest : List KeptMessage) (id : ℕ) → message.id ≢ id → kept_octets id (message ∷ rest) ≡ kept_octets id rest
octets_later message rest id other = rw (ne_eqb message.id id other) refl

pub octets_below : (id least : ℕ) (kept : List KeptMessage) → RiseFrom least kept → id < least → kept_octets id kept ≡ None
octets_below id least [] rising below = refl
octets_below id least (message ∷ rest) (from, rising) below =
    octets_later message rest id (omega arith) ∙ octets_below id (message.id + 1) rest rising (omega arith)

none_some : {X : Type 0} (octets : List ℕ) → None ≡ Some octets → X
none_some octets same = absurd (cc)

some_same : (first second : List ℕ) → Some first ≡ Some second → first ≡ second
some_same first second same = cc

-- messages whose Message IDs rise are told by their octets
pub same_messages : (a b : ℕ) (xs ys : List KeptMessage) → RiseFrom a xs → RiseFrom b ys → ((id : ℕ) → kept_octets id xs ≡ kept_octets id ys) → xs ≡ ys
same_messages a b [] [] first second same = refl
same_messages a b [] (y ∷ ys) first second same = none_some y.octets (same y.id ∙ octets_here y ys)
same_messages a b (x ∷ xs) [] first second same = none_some x.octets (sym (same x.id) ∙ octets_here x xs)
same_messages a b (x ∷ xs) (y ∷ ys) (from, first) (up, second) same =
    (λ i. record { id = heads i; octets = octets i } ∷ same_messages (x.id + 1) (y.id + 1) xs ys first second tails i)
  where
    heads : x.id ≡ y.id
    heads = go (cases_lt x.id y.id) (cases_lt y.id x.id)
      where
        go : (x.id < y.id) ⊎ (y.id ≤ x.id) → (y.id < x.id) ⊎ (x.id ≤ y.id) → x.id ≡ y.id
        go (inl less) other =
            none_some x.octets (sym (octets_below x.id y.id (y ∷ ys) (omega arith, second) less) ∙ sym (same x.id) ∙ octets_here x xs)
        go (inr above) (inl less) =
            none_some y.octets (sym (octets_below y.id x.id (x ∷ xs) (omega arith, first) less) ∙ same y.id ∙ octets_here y ys)
        go (inr above) (inr below) = omega arith

    octets : x.octets ≡ y.octets
    octets = some_same x.octets y.octets
        (sym (octets_here x xs) ∙ same x.id ∙ ap (λ id. kept_octets id (y ∷ ys)) heads ∙ octets_here y ys)

    tails : (id : ℕ) → kept_octets id xs ≡ kept_octets id ys
    tails id = go (cases_eq x.id id)
      where
        go : (x.id ≡ id) ⊎ (x.id ≢ id) → kept_octets id xs ≡ kept_octets id ys
        go (inl is) = octets_below id (x.id + 1) xs first (omega arith) ∙ sym (octets_below id (y.id + 1) ys second (omega (arith, heads)))
        go (inr other) = sym (octets_later x xs id other) ∙ same id ∙ octets_later y ys id (λ is. other (heads ∙ is))

-- a test of Message IDs
pub octets_tested : (test : ℕ → Bool) (kept : List KeptMessage) (id : ℕ) →
    kept_octets id (filter (λ message. test message.id) kept) ≡ (if test id then kept_octets id kept else None)
octets_tested test [] id = go (test id)
  where
    go : (b : Bool) → kept_octets id [] ≡ (if b then kept_octets id [] else None)
    go true = refl
    go false = refl
octets_tested test (message ∷ kept) id = go (test message.id) refl (cases_eq message.id id) (octets_tested test kept id)
  where
    left : List KeptMessage
    left = filter (λ m. test m.id) kept

    go : (b : Bool) → test message.id ≡ b → (message.id ≡ id) ⊎ (message.id ≢ id) → kept_octets id left ≡ (if test id then kept_octets id kept else None) →
        kept_octets id (cond b (message ∷ left) left) ≡ (if test id then kept_octets id (message ∷ kept) else None)
    go true is (inl same) rest = rw (sym (ap test same) ∙ is, eq-eqb message.id id same) refl
    go false is (inl same) rest = rest ∙ rw (sym (ap test same) ∙ is) refl
    go true is (inr other) rest = octets_later message left id other ∙ rest ∙ ap (λ o. if test id then o else None) (sym (octets_later message kept id other))
    go false is (inr other) rest = rest ∙ ap (λ o. if test id then o else None) (sym (octets_later message kept id other))

pub rise_messages : (slots : List (Option KeptMessage)) (count from : ℕ) → RiseFrom from (messages_from slots count from)
rise_messages slots zero from = tt
rise_messages slots (suc count) from = go (octets_at slots from) (rise_messages slots count (from + 1))
  where
    rest : List KeptMessage
    rest = messages_from slots count (from + 1)

    go : (o : Option (List ℕ)) → RiseFrom (from + 1) rest → RiseFrom from (in_front from o rest)
    go None rising = rise_lower from (from + 1) rest (omega arith) rising
    go (Some octets) rising = (omega arith, rising)

octets_between : (slots : List (Option KeptMessage)) (count from id : ℕ) → from ≤ id → id < from + count →
    kept_octets id (messages_from slots count from) ≡ octets_at slots id
octets_between slots zero from id low high = absurd (omega arith)
octets_between slots (suc count) from id low high =
    go (octets_at slots from) refl (cases_eq from id) (λ up. octets_between slots count (from + 1) id up (omega arith))
  where
    rest : List KeptMessage
    rest = messages_from slots count (from + 1)

    go : (o : Option (List ℕ)) → octets_at slots from ≡ o → (from ≡ id) ⊎ (from ≢ id) → (from + 1 ≤ id → kept_octets id rest ≡ octets_at slots id) →
        kept_octets id (in_front from o rest) ≡ octets_at slots id
    go None is (inl same) later =
        octets_below id (from + 1) rest (rise_messages slots count (from + 1)) (omega arith) ∙ sym is ∙ ap (octets_at slots) same
    go None is (inr other) later = later (omega arith)
    go (Some octets) is (inl same) later = rw (eq-eqb from id same) (sym is ∙ ap (octets_at slots) same)
    go (Some octets) is (inr other) later = rw (ne_eqb from id other) (later (omega arith))

octets_above : (slots : List (Option KeptMessage)) (count from id : ℕ) → from + count ≤ id → kept_octets id (messages_from slots count from) ≡ None
octets_above slots zero from id above = refl
octets_above slots (suc count) from id above = go (octets_at slots from) (octets_above slots count (from + 1) id (omega arith))
  where
    rest : List KeptMessage
    rest = messages_from slots count (from + 1)

    go : (o : Option (List ℕ)) → kept_octets id rest ≡ None → kept_octets id (in_front from o rest) ≡ None
    go None none = none
    go (Some octets) none = rw (ne_eqb from id (omega arith)) none

-- what a ring keeps is what its slots keep
pub octets_ring : (first n : ℕ) (slots : List (Option KeptMessage)) (id : ℕ) → IsRing first slots → n ≡ length slots →
    kept_octets id (messages_from slots n first) ≡ octets_at slots id
octets_ring first n slots id ring size = go (octets_at slots id) refl (cases_lt id first) (cases_lt id (first + n))
  where
    out : (o : Option (List ℕ)) → octets_at slots id ≡ o → ((octets : List ℕ) → o ≡ Some octets → ⊥) → None ≡ o
    out None is never = refl
    out (Some octets) is never = absurd (never octets refl)

    go : (o : Option (List ℕ)) → octets_at slots id ≡ o → (id < first) ⊎ (first ≤ id) → (id < first + n) ⊎ (first + n ≤ id) →
        kept_octets id (messages_from slots n first) ≡ octets_at slots id
    go o is (inl below) within =
        octets_below id first (messages_from slots n first) (rise_messages slots n first) below
        ∙ out o is (λ octets so. let low : first ≤ id = ring.from id (ap is_some (is ∙ so)) in omega arith) ∙ sym is
    go o is (inr from) (inl within) = octets_between slots n first id from within
    go o is (inr from) (inr above) =
        octets_above slots n first id above
        ∙ out o is (λ octets so. let high : id < first + length slots = ring.below id (ap is_some (is ∙ so)) in omega (arith, size)) ∙ sym is

-- two Message IDs of one ring have two slots
apart : (n a b qa qb r : ℕ) → 0 < n → n * qa + r ≡ a → n * qb + r ≡ b → a < b + n → b < a + n → qa ≡ qb
apart n a b qa qb r some first second less more = go (cases_lt qa qb) (cases_lt qb qa)
  where
    step : (x y : ℕ) → x < y → n * x + n ≤ n * y
    step x y up = grind arith

    go : (qa < qb) ⊎ (qb ≤ qa) → (qb < qa) ⊎ (qa ≤ qb) → qa ≡ qb
    go (inl up) other = let far : n * qa + n ≤ n * qb = step qa qb up in absurd (omega arith)
    go (inr up) (inl down) = let far : n * qb + n ≤ n * qa = step qb qa down in absurd (omega arith)
    go (inr up) (inr down) = omega arith

pub one_slot : (first n a b : ℕ) → 0 < n → first ≤ a → a < first + n → first ≤ b → b < first + n → a % n ≡ b % n → a ≡ b
one_slot first n a b some low_a high_a low_b high_b same =
    let quotients : a / n ≡ b / n =
    apart n a b (a / n) (b / n) (a % n) some (div-add-mod a n) (ap (λ r. n * (b / n) + r) same ∙ div-add-mod b n) (omega arith) (omega arith) in
    sym (div-add-mod a n) ∙ (λ i. n * quotients i + same i) ∙ div-add-mod b n

-- what a slot that is written keeps
pub octets_put : (slots : List (Option KeptMessage)) (at id : ℕ) (slot : Option KeptMessage) → 0 < length slots → at ≡ id % length slots →
    octets_at (set slots at slot) id ≡ octets_in_slot slot id
octets_put slots at id slot some is =
    let within : at < length slots = rw is (mod-lt id some) in
    (λ i. octets_in_slot (get_or (set slots at slot) (id % length-set slots at slot i) None) id)
    ∙ (λ i. octets_in_slot (get_or (set slots at slot) (sym is i) None) id)
    ∙ ap (λ s. octets_in_slot s id) (get_or-set_same slots at slot None within)

pub octets_put_other : (slots : List (Option KeptMessage)) (at id : ℕ) (slot : Option KeptMessage) → id % length slots ≢ at →
    octets_at (set slots at slot) id ≡ octets_at slots id
octets_put_other slots at id slot other =
    (λ i. octets_in_slot (get_or (set slots at slot) (id % length-set slots at slot i) None) id)
    ∙ ap (λ s. octets_in_slot s id) (get_or-set_other slots at (id % length slots) slot None other)

-- a slot that keeps a message from this Message ID on
octets_in_slot-from_on : (least id : ℕ) (slot : Option KeptMessage) →
    octets_in_slot (from_on least slot) id ≡ (if nat_le least id then octets_in_slot slot id else None)
octets_in_slot-from_on least id None = go (nat_le least id)
  where
    go : (b : Bool) → octets_in_slot None id ≡ (if b then octets_in_slot None id else None)
    go true = refl
    go false = refl
octets_in_slot-from_on least id (Some message) = go (nat_le least message.id) refl (cases_eq message.id id) (nat_le least id) refl
  where
    go : (b : Bool) → nat_le least message.id ≡ b → (message.id ≡ id) ⊎ (message.id ≢ id) → (t : Bool) → nat_le least id ≡ t →
        octets_in_slot (if b then Some message else None) id ≡ (if t then (if message.id == id then Some message.octets else None) else None)
    go true is (inl same) true so = refl
    go true is (inl same) false so = absurd (let both : true ≡ false = sym is ∙ ap (nat_le least) same ∙ so in cc)
    go false is (inl same) true so = absurd (let both : false ≡ true = sym is ∙ ap (nat_le least) same ∙ so in cc)
    go false is (inl same) false so = refl
    go true is (inr other) true so = refl
    go true is (inr other) false so = rw (ne_eqb message.id id other) refl
    go false is (inr other) true so = rw (ne_eqb message.id id other) refl
    go false is (inr other) false so = refl

pub octets_from_on : (least id : ℕ) (slots : List (Option KeptMessage)) → 0 < length slots →
    octets_at (map (from_on least) slots) id ≡ (if nat_le least id then octets_at slots id else None)
octets_from_on least id slots some =
    (λ i. octets_in_slot (get_or (map (from_on least) slots) (id % length-map slots (from_on least) i) None) id)
    ∙ ap (λ s. octets_in_slot s id) (get_or-map (from_on least) slots (id % length slots) None None (mod-lt id some))
    ∙ octets_in_slot-from_on least id (get_or slots (id % length slots) None)

-- the slot of a Message ID, as it was found
pub octets_found : (slots : List (Option KeptMessage)) (n id : ℕ) (slot : Option KeptMessage) → 0 < n → n ≡ length slots →
    octets_at slots id ≡ octets_in_slot (get_or slots (id % n) slot) id
octets_found slots n id slot some size =
    let within : id % length slots < length slots = mod-lt id (rw (← size) some) in
    ap (λ s. octets_in_slot s id) (get_or_default slots (id % length slots) None slot within)
    ∙ (λ i. octets_in_slot (get_or slots (id % sym size i) slot) id)

pub match_same : {X : Type 0} (result : Option X) (a b : Option (List ℕ)) (octets : X → List ℕ) → a ≡ b →
    MatchOption result (b ≡ None) (λ x. b ≡ Some (octets x)) → MatchOption result (a ≡ None) (λ x. a ≡ Some (octets x))
match_same None a b octets same is = same ∙ is
match_same (Some x) a b octets same is = same ∙ is

-- a slot that is written with what has no other Message ID
pub octets_set : (first n : ℕ) (slots : List (Option KeptMessage)) (id other : ℕ) (slot : Option KeptMessage) → 0 < n → n ≡ length slots → IsRing first slots →
    first ≤ id → id < first + n → (other ≢ id → octets_in_slot slot other ≡ None) →
    octets_at (set slots (id % n) slot) other ≡ (if id == other then octets_in_slot slot id else octets_at slots other)
octets_set first n slots id other slot some size ring from within foreign = go (cases_eq id other)
  where
    full : 0 < length slots
    full = rw (← size) some

    at : id % n ≡ id % length slots
    at = ap (λ k. id % k) size

    unslotted : other ≢ id → other % length slots ≡ id % n → (o : Option (List ℕ)) → octets_at slots other ≡ o → None ≡ o
    unslotted apart_from same None is = refl
    unslotted apart_from same (Some octets) is =
        let low : first ≤ other = ring.from other (ap is_some is) in
        let high : other < first + length slots = ring.below other (ap is_some is) in
        absurd (apart_from (one_slot first (length slots) other id full low high from (omega (arith, size)) (same ∙ at)))

    elsewhere : other ≢ id → (other % length slots ≡ id % n) ⊎ (other % length slots ≢ id % n) →
        octets_at (set slots (id % n) slot) other ≡ octets_at slots other
    elsewhere apart_from (inl same) =
        octets_put slots (id % n) other slot full (sym same) ∙ foreign apart_from ∙ unslotted apart_from same (octets_at slots other) refl
    elsewhere apart_from (inr differs) = octets_put_other slots (id % n) other slot differs

    go : (id ≡ other) ⊎ (id ≢ other) →
        octets_at (set slots (id % n) slot) other ≡ (if id == other then octets_in_slot slot id else octets_at slots other)
    go (inl same) = rw (eq-eqb id other same) (ap (octets_at (set slots (id % n) slot)) (sym same) ∙ octets_put slots (id % n) id slot full at)
    go (inr differs) = rw (ne_eqb id other differs) (elsewhere (λ is. differs (sym is)) (cases_eq (other % length slots) (id % n)))

-- what the slots keep is in the ring
pub ring_of : (first : ℕ) (slots : List (Option KeptMessage)) →
    ((id : ℕ) (octets : List ℕ) → octets_at slots id ≡ Some octets → (first ≤ id) × (id < first + length slots)) →
    IsRing first slots
ring_of first slots all = record {
  from = λ id kept. go id (octets_at slots id) refl kept (λ both. both.0);
  below = λ id kept. go id (octets_at slots id) refl kept (λ both. both.1);
}
  where
    go : {P : Type 0} (id : ℕ) (o : Option (List ℕ)) → octets_at slots id ≡ o → is_some (octets_at slots id) ≡ true →
        ((first ≤ id) × (id < first + length slots) → P) → P
    go id None is kept use_it = absurd (let none : false ≡ true = sym (ap is_some is) ∙ kept in cc)
    go id (Some octets) is kept use_it = use_it (all id octets is)
