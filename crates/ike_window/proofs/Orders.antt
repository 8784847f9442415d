-- Messages in ascending order of Message ID.
use Rattle.std.proofs.Common.{◌≡◌, ◌≢◌, ℕ, ◌+◌, ◌<◌, ◌≤◌, Bool, true, false, cond, nat_le, ◌==◌, ◌||◌, Option, Some, None, MatchOption, is_some, if◌then◌else◌, List, [], ◌∷◌, length, filter, refl, sym, ap, ◌∙◌, arith, eq-eqb}
use Rattle.std.specs.Prelude.{⊤}
use Rattle.std.specs.List.{All}
use Rattle.std.proofs.lemmas.List.Elements.{All-nil, All-cons, All-weaker, All-head, All-tail}
use Rattle.ike_window.specs.Kept.{AllBelow, KeptMessage, RiseFrom, by_message_id, message_ids_of, has_message_id, kept_octets, with_kept}
use Rattle.std.proofs.lemmas.Bool.{ne_eqb}
use Rattle.std.proofs.lemmas.Bool.Decides.{nat_tests}

pub all_from : (least : ℕ) (kept : List KeptMessage) → RiseFrom least kept → All (λ id. least ≤ id) (message_ids_of kept)
all_from least [] rising = All-nil (λ id. least ≤ id)
all_from least (message ∷ rest) (from, rising) =
    All-cons (λ id. least ≤ id) message.id (message_ids_of rest) from
    (All-weaker (λ id. message.id + 1 ≤ id) (λ id. least ≤ id) (λ id h. omega arith) (message_ids_of rest) (all_from (message.id + 1) rest rising))

pub rise_lower : (least from : ℕ) (kept : List KeptMessage) → least ≤ from → RiseFrom from kept → RiseFrom least kept
rise_lower least from [] lower rising = tt
rise_lower least from (message ∷ rest) lower (above, rising) = (omega arith, rising)

pub length_rising : (least end : ℕ) (kept : List KeptMessage) → RiseFrom least kept → AllBelow end kept → least ≤ end → length kept + least ≤ end
length_rising least end [] rising below within = omega arith
length_rising least end (message ∷ rest) (from, rising) below within =
    let first : message.id < end = All-head (λ id. id < end) message.id (message_ids_of rest) below in
    let later : length rest + (message.id + 1) ≤ end =
    length_rising (message.id + 1) end rest rising (All-tail (λ id. id < end) message.id (message_ids_of rest) below) (omega arith) in
    omega arith

pub true_not_false : true ≡ false → ⊥
true_not_false same = absurd (cc)

swap_or : (a b c : Bool) → (a || (b || c)) ≡ (b || (a || c))
swap_or true true c = refl
swap_or true false c = refl
swap_or false b c = refl

pub among_inserted : (message : KeptMessage) (kept : List KeptMessage) (m : ℕ) →
    has_message_id (message_ids_of (with_kept message kept)) m ≡ ((message.id == m) || has_message_id (message_ids_of kept) m)
among_inserted message [] m = refl
among_inserted message (other ∷ kept) m = go (nat_le message.id other.id) (among_inserted message kept m)
  where
    go : (b : Bool) → has_message_id (message_ids_of (with_kept message kept)) m ≡ ((message.id == m) || has_message_id (message_ids_of kept) m) →
        has_message_id (message_ids_of (if b then message ∷ other ∷ kept else other ∷ with_kept message kept)) m ≡
        ((message.id == m) || ((other.id == m) || has_message_id (message_ids_of kept) m))
    go true rest = refl
    go false rest = ap (λ b. (other.id == m) || b) rest ∙ swap_or (other.id == m) (message.id == m) (has_message_id (message_ids_of kept) m)

pub among_ascending : (stored : List KeptMessage) (m : ℕ) → has_message_id (message_ids_of (by_message_id stored)) m ≡ has_message_id (message_ids_of stored) m
among_ascending [] m = refl
among_ascending (message ∷ stored) m =
    among_inserted message (by_message_id stored) m ∙ ap (λ b. (message.id == m) || b) (among_ascending stored m)

-- a test that passes each message of an identifier
pub among_filter : (test : KeptMessage → Bool) (kept : List KeptMessage) (m : ℕ) → ((message : KeptMessage) → message.id ≡ m → test message ≡ true) →
    has_message_id (message_ids_of (filter test kept)) m ≡ has_message_id (message_ids_of kept) m
among_filter test [] m passes = refl
among_filter test (message ∷ kept) m passes = go (test message) refl (among_filter test kept m passes)
  where
    go : (b : Bool) → test message ≡ b → has_message_id (message_ids_of (filter test kept)) m ≡ has_message_id (message_ids_of kept) m →
        has_message_id (message_ids_of (cond b (message ∷ filter test kept) (filter test kept))) m ≡
        ((message.id == m) || has_message_id (message_ids_of kept) m)
    go true is rest = ap (λ b. (message.id == m) || b) rest
    go false is rest = let other : (message.id == m) ≡ false = ne_eqb message.id m (λ same. true_not_false (sym (passes message same) ∙ is)) in rw other rest

-- a test that passes no message of an identifier
pub none_filtered : (test : KeptMessage → Bool) (kept : List KeptMessage) (m : ℕ) → ((message : KeptMessage) → message.id ≡ m → test message ≡ false) →
    has_message_id (message_ids_of (filter test kept)) m ≡ false
none_filtered test [] m fails = refl
none_filtered test (message ∷ kept) m fails = go (test message) refl (none_filtered test kept m fails)
  where
    go : (b : Bool) → test message ≡ b → has_message_id (message_ids_of (filter test kept)) m ≡ false →
        has_message_id (message_ids_of (cond b (message ∷ filter test kept) (filter test kept))) m ≡ false
    go true is rest = let other : (message.id == m) ≡ false = ne_eqb message.id m (λ same. true_not_false (sym is ∙ fails message same)) in rw other rest
    go false is rest = rest

pub octets_inserted : (message : KeptMessage) (kept : List KeptMessage) (id : ℕ) → kept_octets id (with_kept message kept) ≡ kept_octets id (message ∷ kept)
octets_inserted message [] id = refl
octets_inserted message (other ∷ kept) id = go (nat_le message.id other.id) refl (octets_inserted message kept id)
  where
    swap_if : (a b : Bool) (x y z : Option (List ℕ)) → (a ≡ true → b ≡ false) →
        (if a then x else (if b then y else z)) ≡ (if b then y else (if a then x else z))
    swap_if true true x y z apart = let no : true ≡ false = apart refl in absurd (cc)
    swap_if true false x y z apart = refl
    swap_if false b x y z apart = refl

    go : (b : Bool) → nat_le message.id other.id ≡ b → kept_octets id (with_kept message kept) ≡ kept_octets id (message ∷ kept) →
        kept_octets id (if b then message ∷ other ∷ kept else other ∷ with_kept message kept) ≡ kept_octets id (message ∷ other ∷ kept)
    go true is rest = refl
    go false is rest =
        ap (λ o. if other.id == id then Some other.octets else o) rest
        ∙ swap_if (other.id == id) (message.id == id) (Some other.octets) (Some message.octets) (kept_octets id kept)
        (λ here. grind (arith, nat_tests))

pub octets_ascending : (stored : List KeptMessage) (id : ℕ) → kept_octets id (by_message_id stored) ≡ kept_octets id stored
octets_ascending [] id = refl
octets_ascending (message ∷ stored) id =
    octets_inserted message (by_message_id stored) id ∙ ap (λ o. if message.id == id then Some message.octets else o) (octets_ascending stored id)

pub octets_filter : (test : KeptMessage → Bool) (kept : List KeptMessage) (id : ℕ) → ((message : KeptMessage) → message.id ≡ id → test message ≡ true) →
    kept_octets id (filter test kept) ≡ kept_octets id kept
octets_filter test [] id passes = refl
octets_filter test (message ∷ kept) id passes = go (test message) refl (octets_filter test kept id passes)
  where
    go : (b : Bool) → test message ≡ b → kept_octets id (filter test kept) ≡ kept_octets id kept →
        kept_octets id (cond b (message ∷ filter test kept) (filter test kept)) ≡ (if message.id == id then Some message.octets else kept_octets id kept)
    go true is rest = ap (λ o. if message.id == id then Some message.octets else o) rest
    go false is rest = let other : (message.id == id) ≡ false = ne_eqb message.id id (λ same. true_not_false (sym (passes message same) ∙ is)) in rw other rest

-- no identifier is below the one before it
abbrev pub NotFalling : ℕ → List KeptMessage → Type 0
NotFalling least [] = ⊤
NotFalling least (message ∷ rest) = (least ≤ message.id) × NotFalling message.id rest

pub lower_not_falling : (least from : ℕ) (kept : List KeptMessage) → least ≤ from → NotFalling from kept → NotFalling least kept
lower_not_falling least from [] lower falls = tt
lower_not_falling least from (message ∷ rest) lower (above, rising) = (omega arith, rising)

pub inserted_not_falling : (message : KeptMessage) (least : ℕ) (kept : List KeptMessage) → least ≤ message.id → NotFalling least kept →
    NotFalling least (with_kept message kept)
inserted_not_falling message least [] from rising = (from, tt)
inserted_not_falling message least (other ∷ kept) from (above, rising) =
    go (nat_le message.id other.id) refl (λ later. inserted_not_falling message other.id kept later rising)
  where
    go : (b : Bool) → nat_le message.id other.id ≡ b → (other.id ≤ message.id → NotFalling other.id (with_kept message kept)) →
        NotFalling least (if b then message ∷ other ∷ kept else other ∷ with_kept message kept)
    go true is rest = let low : message.id ≤ other.id = grind (arith, nat_tests) in (from, (low, rising))
    go false is rest = (above, rest (grind (arith, nat_tests)))

pub ascending_not_falling : (stored : List KeptMessage) → NotFalling 0 (by_message_id stored)
ascending_not_falling [] = tt
ascending_not_falling (message ∷ stored) = inserted_not_falling message 0 (by_message_id stored) (omega arith) (ascending_not_falling stored)

pub filter_not_falling : (test : KeptMessage → Bool) (least : ℕ) (kept : List KeptMessage) → NotFalling least kept → NotFalling least (filter test kept)
filter_not_falling test least [] rising = tt
filter_not_falling test least (message ∷ kept) (from, rising) = go (test message) (filter_not_falling test message.id kept rising)
  where
    go : (b : Bool) → NotFalling message.id (filter test kept) → NotFalling least (cond b (message ∷ filter test kept) (filter test kept))
    go true rest = (from, rest)
    go false rest = lower_not_falling least message.id (filter test kept) from rest

inserted_first : (message : KeptMessage) (least : ℕ) (kept : List KeptMessage) → message.id ≤ least → NotFalling least kept →
    with_kept message kept ≡ message ∷ kept
inserted_first message least [] low rising = refl
inserted_first message least (other ∷ kept) low (from, rising) =
    let first : nat_le message.id other.id ≡ true = grind (arith, nat_tests) in rw first refl

-- of two tests of which the second passes what the first one passes, the first one alone
pub filter_again : (first second : KeptMessage → Bool) (kept : List KeptMessage) → ((message : KeptMessage) → first message ≡ true → second message ≡ true) →
    filter first (filter second kept) ≡ filter first kept
filter_again first second [] passes = refl
filter_again first second (message ∷ kept) passes = go (second message) refl (first message) refl (filter_again first second kept passes)
  where
    go : (s : Bool) → second message ≡ s → (f : Bool) → first message ≡ f → filter first (filter second kept) ≡ filter first kept →
        filter first (cond s (message ∷ filter second kept) (filter second kept)) ≡ filter first (message ∷ kept)
    go true is f so rest = ap (λ ms. cond (first message) (message ∷ ms) ms) rest
    go false is true so rest = let both : second message ≡ true = passes message so in absurd (cc)
    go false is false so rest = rw so rest

-- the same around a message that is inserted
pub inserted_filter : (first second : KeptMessage → Bool) (message : KeptMessage) (least : ℕ) (kept : List KeptMessage) → NotFalling least kept →
    ((other : KeptMessage) → first other ≡ true → second other ≡ true) →
    filter first (with_kept message (filter second kept)) ≡ filter first (with_kept message kept)
inserted_filter first second message least [] rising passes = refl
inserted_filter first second message least (other ∷ kept) (from, rising) passes =
    go (nat_le message.id other.id) refl (second other) refl (first other) refl (inserted_filter first second message other.id kept rising passes)
  where
    front : (low : message.id ≤ other.id) → filter first (with_kept message (filter second kept)) ≡ filter first (message ∷ kept)
    front low =
        ap (filter first) (inserted_first message other.id (filter second kept) low (filter_not_falling second other.id kept rising))
        ∙ ap (λ ms. cond (first message) (message ∷ ms) ms) (filter_again first second kept passes)

    go : (b : Bool) → nat_le message.id other.id ≡ b → (s : Bool) → second other ≡ s → (f : Bool) → first other ≡ f →
        filter first (with_kept message (filter second kept)) ≡ filter first (with_kept message kept) →
        filter first (with_kept message (cond s (other ∷ filter second kept) (filter second kept))) ≡ filter first
        (if b then message ∷ other ∷ kept else other ∷ with_kept message kept)
    go true is true so f sof rest =
        rw is (ap (λ ms. cond (first message) (message ∷ cond (first other) (other ∷ ms) ms) (cond (first other) (other ∷ ms) ms))
        (filter_again first second kept passes))
    go true is false so true sof rest = let both : second other ≡ true = passes other sof in absurd (cc)
    go true is false so false sof rest = let low : message.id ≤ other.id = grind (arith, nat_tests) in rw sof (front low)
    go false is true so f sof rest = rw is (ap (λ ms. cond (first other) (other ∷ ms) ms) rest)
    go false is false so true sof rest = let both : second other ≡ true = passes other sof in absurd (cc)
    go false is false so false sof rest = rw sof rest

-- octets are kept under the identifiers of the messages, and under no others
pub among_from_octets : (id : ℕ) (octets : List ℕ) (kept : List KeptMessage) → kept_octets id kept ≡ Some octets → has_message_id (message_ids_of kept) id ≡ true
among_from_octets id octets [] is = absurd (cc)
among_from_octets id octets (message ∷ kept) is = go (message.id == id) (among_from_octets id octets kept) is
  where
    go : (b : Bool) → (kept_octets id kept ≡ Some octets → has_message_id (message_ids_of kept) id ≡ true) →
        (if b then Some message.octets else kept_octets id kept) ≡ Some octets →
        (b || has_message_id (message_ids_of kept) id) ≡ true
    go true rest so = refl
    go false rest so = rest so

pub not_among_from_octets : (id : ℕ) (kept : List KeptMessage) → kept_octets id kept ≡ None → has_message_id (message_ids_of kept) id ≡ false
not_among_from_octets id [] is = refl
not_among_from_octets id (message ∷ kept) is = go (message.id == id) (not_among_from_octets id kept) is
  where
    go : (b : Bool) → (kept_octets id kept ≡ None → has_message_id (message_ids_of kept) id ≡ false) →
        (if b then Some message.octets else kept_octets id kept) ≡ None →
        (b || has_message_id (message_ids_of kept) id) ≡ false
    go true rest so = absurd (cc)
    go false rest so = rest so

pub all_other : (ids : List ℕ) (m : ℕ) → has_message_id ids m ≡ false → All (λ id. id ≢ m) ids
all_other [] m none = All-nil (λ id. id ≢ m)
all_other (id ∷ ids) m none = go (id == m) refl (all_other ids m) none
  where
    go : (b : Bool) → (id == m) ≡ b → (has_message_id ids m ≡ false → All (λ other. other ≢ m) ids) → (b || has_message_id ids m) ≡ false →
        All (λ other. other ≢ m) (id ∷ ids)
    go true is rest so = absurd (cc)
    go false is rest so = All-cons (λ other. other ≢ m) id ids (λ same. true_not_false (sym (eq-eqb id m same) ∙ is)) (rest so)

pub found_among : {X : Type 0} (id : ℕ) (kept : List KeptMessage) (result : Option X) (octets : X → List ℕ) →
    MatchOption result (kept_octets id kept ≡ None) (λ x. kept_octets id kept ≡ Some (octets x)) → is_some result ≡ has_message_id (message_ids_of kept) id
found_among id kept None octets is = sym (not_among_from_octets id kept is)
found_among id kept (Some x) octets is = sym (among_from_octets id (octets x) kept is)
