-- Messages whose Message IDs rise, and what keeps them rising.
use Rattle.std.proofs.Common.{◌≡◌, ◌≢◌, ℕ, zero, suc, ◌+◌, ◌<◌, ◌≤◌, Bool, true, false, cond, nat_le, nat_lt, ◌==◌, ◌||◌, ◌&&◌, ◌⊎◌, inl, inr, if◌then◌else◌, List, [], ◌∷◌, ◌++◌, filter, slice_get, Some, refl, sym, ap, ◌∙◌, eq-eqb, arith}
use Rattle.std.specs.List.{All, Contains}
use Rattle.std.specs.List.Sorted.{IsStrictlyIncreasing}
use Rattle.std.proofs.lemmas.Bool.{cases_eq, cases_lt, ne_eqb}
use Rattle.std.proofs.lemmas.Bool.Decides.{nat_tests}
use Rattle.std.proofs.lemmas.List.Elements.{All-nil, All-cons, All-contains, All-weaker, All-head, All-tail}
use Rattle.ike_window.specs.Asking.{IsLeast}
use Rattle.ike_window.specs.Kept.{AllBelow, KeptMessage, RiseFrom, message_ids_of, has_message_id, with_kept}
use Rattle.ike_window.proofs.Lows.{from_among}
use Rattle.ike_window.proofs.Orders.{all_from, rise_lower}

pub below_contains : (end : ℕ) (kept : List KeptMessage) (id : ℕ) → AllBelow end kept → has_message_id (message_ids_of kept) id ≡ true → id < end
below_contains end kept id below among = All-contains (λ id. id < end) (message_ids_of kept) id below (from_among (message_ids_of kept) id among)

pub rise_pushed : (least : ℕ) (message : KeptMessage) (kept : List KeptMessage) → least ≤ message.id → RiseFrom least kept → AllBelow message.id kept →
    RiseFrom least (kept ++ message ∷ [])
rise_pushed least message [] from rising below = (from, tt)
rise_pushed least message (other ∷ kept) from (above, rising) below =
    let first : other.id < message.id = All-head (λ id. id < message.id) other.id (message_ids_of kept) below in
    (above, rise_pushed (other.id + 1) message kept (omega arith) rising (All-tail (λ id. id < message.id) other.id (message_ids_of kept) below))

pub rise_inserted : (least : ℕ) (message : KeptMessage) (kept : List KeptMessage) → least ≤ message.id → RiseFrom least kept →
    All (λ id. id ≢ message.id) (message_ids_of kept) →
    RiseFrom least (with_kept message kept)
rise_inserted least message [] from rising other = (from, tt)
rise_inserted least message (first ∷ kept) from (above, rising) others =
    go (nat_le message.id first.id) refl (All-head (λ id. id ≢ message.id) first.id (message_ids_of kept) others)
    (λ later. rise_inserted (first.id + 1) message kept later rising (All-tail (λ id. id ≢ message.id) first.id (message_ids_of kept) others))
  where
    go : (b : Bool) → nat_le message.id first.id ≡ b → first.id ≢ message.id → (first.id + 1 ≤ message.id → RiseFrom (first.id + 1) (with_kept message kept)) →
        RiseFrom least (if b then message ∷ first ∷ kept else first ∷ with_kept message kept)
    go true is other rest = let low : message.id ≤ first.id = grind (arith, nat_tests) in (from, (omega arith, rising))
    go false is other rest = let high : first.id < message.id = grind (arith, nat_tests) in (above, rest (omega arith))

pub rise_filtered : (test : KeptMessage → Bool) (least : ℕ) (kept : List KeptMessage) → RiseFrom least kept → RiseFrom least (filter test kept)
rise_filtered test least [] rising = tt
rise_filtered test least (message ∷ kept) (above, rising) = go (test message) (rise_filtered test (message.id + 1) kept rising)
  where
    go : (b : Bool) → RiseFrom (message.id + 1) (filter test kept) → RiseFrom least (cond b (message ∷ filter test kept) (filter test kept))
    go true rest = (above, rest)
    go false rest = rise_lower least (message.id + 1) (filter test kept) (omega arith) rest

pub below_filtered : (test : KeptMessage → Bool) (end : ℕ) (kept : List KeptMessage) → AllBelow end kept → AllBelow end (filter test kept)
below_filtered test end [] below = All-nil (λ id. id < end)
below_filtered test end (message ∷ kept) below =
    go (test message) (below_filtered test end kept (All-tail (λ id. id < end) message.id (message_ids_of kept) below))
  where
    go : (b : Bool) → AllBelow end (filter test kept) → AllBelow end (cond b (message ∷ filter test kept) (filter test kept))
    go true rest = All-cons (λ id. id < end) message.id (message_ids_of (filter test kept))
        (All-head (λ id. id < end) message.id (message_ids_of kept) below) rest
    go false rest = rest

pub below_inserted : (end : ℕ) (message : KeptMessage) (kept : List KeptMessage) → message.id < end → AllBelow end kept → AllBelow end (with_kept message kept)
below_inserted end message [] within below = All-cons (λ id. id < end) message.id [] within below
below_inserted end message (first ∷ kept) within below =
    go (nat_le message.id first.id) (below_inserted end message kept within (All-tail (λ id. id < end) first.id (message_ids_of kept) below))
  where
    go : (b : Bool) → AllBelow end (with_kept message kept) → AllBelow end (if b then message ∷ first ∷ kept else first ∷ with_kept message kept)
    go true rest = All-cons (λ id. id < end) message.id (message_ids_of (first ∷ kept)) within below
    go false rest = All-cons (λ id. id < end) first.id (message_ids_of (with_kept message kept))
        (All-head (λ id. id < end) first.id (message_ids_of kept) below) rest

pub below_higher : (end higher : ℕ) (kept : List KeptMessage) → end ≤ higher → AllBelow end kept → AllBelow higher kept
below_higher end higher kept up below = All-weaker (λ id. id < end) (λ id. id < higher) (λ id h. omega arith) (message_ids_of kept) below

pub first_is_least : (least : ℕ) (kept : List KeptMessage) → RiseFrom 0 kept → Some least ≡ slice_get (message_ids_of kept) 0 →
    IsLeast (message_ids_of kept) least
first_is_least least [] rising is = absurd (cc)
first_is_least least (message ∷ kept) (above, rising) is =
    let same : least ≡ message.id = cc in
    ((zero, omega arith, sym same), rw same (all_from message.id (message ∷ kept) (omega arith, rising)))

pub increasing : (least : ℕ) (kept : List KeptMessage) → RiseFrom least kept → IsStrictlyIncreasing (message_ids_of kept)
increasing least [] rising k within = absurd (omega arith)
increasing least (message ∷ []) rising k within = absurd (omega arith)
increasing least (message ∷ next ∷ kept) (above, (first, rising)) zero within = let less : message.id < next.id = omega arith in less
increasing least (message ∷ next ∷ kept) (above, rising) (suc k) within =
    let next_place : suc k + 1 ≡ suc (k + 1) = omega arith in rw next_place (increasing (message.id + 1) (next ∷ kept) rising k (omega arith))

pub below_pushed : (id : ℕ) (octets : List ℕ) (kept : List KeptMessage) → AllBelow id kept →
    AllBelow (id + 1) (kept ++ record { id = id; octets = octets } ∷ [])
below_pushed id octets [] below = All-cons (λ other. other < id + 1) id [] (omega arith) (All-nil (λ other. other < id + 1))
below_pushed id octets (message ∷ kept) below =
    let first : message.id < id = All-head (λ other. other < id) message.id (message_ids_of kept) below in
    All-cons (λ other. other < id + 1) message.id (message_ids_of (kept ++ record { id = id; octets = octets } ∷ [])) (omega arith)
    (below_pushed id octets kept (All-tail (λ other. other < id) message.id (message_ids_of kept) below))

-- the Message IDs below a number
pub none_below : (end least : ℕ) (kept : List KeptMessage) → RiseFrom least kept → end ≤ least → filter (λ id. nat_lt id end) (message_ids_of kept) ≡ []
none_below end least [] rising low = refl
none_below end least (message ∷ kept) (from, rising) low =
    let above : nat_lt message.id end ≡ false = grind (arith, nat_tests) in
    rw above (none_below end (message.id + 1) kept rising (omega arith))

pub all_below : (end : ℕ) (kept : List KeptMessage) → ((id : ℕ) → has_message_id (message_ids_of kept) id ≡ true → id < end) →
    filter (λ id. nat_lt id end) (message_ids_of kept) ≡ message_ids_of kept
all_below end [] below = refl
all_below end (message ∷ kept) below =
    let first : message.id < end = below message.id (rw (eq-eqb message.id message.id refl) refl) in
    let within : nat_lt message.id end ≡ true = grind (arith, nat_tests) in
    rw within (ap (λ ids. message.id ∷ ids) (all_below end kept
    (λ id among. below id (later (message.id == id) (has_message_id (message_ids_of kept) id) among))))
  where
    later : (a b : Bool) → b ≡ true → (a || b) ≡ true
    later true b is = refl
    later false b is = is

not_among_rising : (id least : ℕ) (kept : List KeptMessage) → RiseFrom least kept → id < least → has_message_id (message_ids_of kept) id ≡ false
not_among_rising id least [] rising low = refl
not_among_rising id least (message ∷ kept) (from, rising) low =
    rw (ne_eqb message.id id (omega arith)) (not_among_rising id (message.id + 1) kept rising (omega arith))

pub one_more_below : (k least : ℕ) (kept : List KeptMessage) → RiseFrom least kept →
    filter (λ id. nat_lt id (k + 1)) (message_ids_of kept) ≡ filter (λ id. nat_lt id k) (message_ids_of kept) ++
    (if has_message_id (message_ids_of kept) k then k ∷ [] else [])
one_more_below k least [] rising = refl
one_more_below k least (message ∷ kept) (from, rising) =
    go (cases_lt message.id k) (cases_eq message.id k) (one_more_below k (message.id + 1) kept rising)
  where
    go : (message.id < k) ⊎ (k ≤ message.id) → (message.id ≡ k) ⊎ (message.id ≢ k) →
        filter (λ id. nat_lt id (k + 1)) (message_ids_of kept) ≡ filter (λ id. nat_lt id k) (message_ids_of kept) ++
        (if has_message_id (message_ids_of kept) k then k ∷ [] else []) →
        filter (λ id. nat_lt id (k + 1)) (message.id ∷ message_ids_of kept) ≡ filter (λ id. nat_lt id k) (message.id ∷ message_ids_of kept) ++
        (if (message.id == k) || has_message_id (message_ids_of kept) k then k ∷ [] else [])
    go (inl below) either rest =
        let here : nat_lt message.id k ≡ true = grind (arith, nat_tests) in
        let there : nat_lt message.id (k + 1) ≡ true = grind (arith, nat_tests) in
        rw (here, there, ne_eqb message.id k (omega arith)) (ap (λ ids. message.id ∷ ids) rest)
    go (inr above) (inl same) rest =
        let here : nat_lt message.id k ≡ false = grind (arith, nat_tests) in
        let there : nat_lt message.id (k + 1) ≡ true = grind (arith, nat_tests) in
        rw (
          here,
          there,
          eq-eqb message.id k same,
          none_below (k + 1) (message.id + 1) kept rising (omega arith),
          none_below k (message.id + 1) kept rising
              (omega arith),
        ) (ap (λ id. id ∷ []) same)
    go (inr above) (inr other) rest =
        let here : nat_lt message.id k ≡ false = grind (arith, nat_tests) in
        let there : nat_lt message.id (k + 1) ≡ false = grind (arith, nat_tests) in
        rw (
          here,
          there,
          ne_eqb message.id k other,
          not_among_rising k (message.id + 1) kept rising (omega arith),
          none_below (k + 1)
              (message.id + 1) kept rising (omega arith),
          none_below k (message.id + 1) kept rising (omega arith),
        ) refl

-- a fact of each Message ID
pub all_among : (P : ℕ → Type 0) (kept : List KeptMessage) → ((id : ℕ) → has_message_id (message_ids_of kept) id ≡ true → P id) → All P (message_ids_of kept)
all_among P [] each = All-nil P
all_among P (message ∷ kept) each =
    All-cons P message.id (message_ids_of kept) (each message.id (rw (eq-eqb message.id message.id refl) refl))
    (all_among P kept (λ id among. each id (later (message.id == id) (has_message_id (message_ids_of kept) id) among)))
  where
    later : (a b : Bool) → b ≡ true → (a || b) ≡ true
    later true b is = refl
    later false b is = is

pub none_among : (ids : List ℕ) (id : ℕ) → ¬ Contains ids id → has_message_id ids id ≡ false
none_among ids id none = go (has_message_id ids id) refl
  where
    go : (b : Bool) → has_message_id ids id ≡ b → has_message_id ids id ≡ false
    go true is = absurd (none (from_among ids id is))
    go false is = is

-- a test that all messages pass
pub filter_all : (test : ℕ → Bool) (kept : List KeptMessage) → All (λ id. test id ≡ true) (message_ids_of kept) →
    filter (λ message. test message.id) kept ≡ kept
filter_all test [] all = refl
filter_all test (message ∷ kept) all =
    rw (All-head (λ id. test id ≡ true) message.id (message_ids_of kept) all)
    (ap (λ ms. message ∷ ms) (filter_all test kept (All-tail (λ id. test id ≡ true) message.id (message_ids_of kept) all)))

-- a message above all others
pub with_last : (message : KeptMessage) (kept : List KeptMessage) → AllBelow message.id kept → with_kept message kept ≡ kept ++ message ∷ []
with_last message [] below = refl
with_last message (other ∷ kept) below =
    let first : other.id < message.id = All-head (λ id. id < message.id) other.id (message_ids_of kept) below in
    let above : nat_le message.id other.id ≡ false = grind (arith, nat_tests) in
    rw above (ap (λ ms. other ∷ ms) (with_last message kept (All-tail (λ id. id < message.id) other.id (message_ids_of kept) below)))

-- a test of Message IDs
pub among_where : (test : ℕ → Bool) (kept : List KeptMessage) → (id : ℕ) →
    has_message_id (message_ids_of (filter (λ message. test message.id) kept)) id ≡ (test id && has_message_id (message_ids_of kept) id)
among_where test [] id = go (test id)
  where
    go : (b : Bool) → false ≡ (b && false)
    go true = refl
    go false = refl
among_where test (message ∷ kept) id = go (test message.id) refl (cases_eq message.id id) (among_where test kept id)
  where
    left : List KeptMessage
    left = filter (λ m. test m.id) kept

    go : (b : Bool) → test message.id ≡ b → (message.id ≡ id) ⊎ (message.id ≢ id) →
        has_message_id (message_ids_of left) id ≡ (test id && has_message_id (message_ids_of kept) id) →
        has_message_id (message_ids_of (cond b (message ∷ left) left)) id ≡ (test id && ((message.id == id) || has_message_id (message_ids_of kept) id))
    go true is (inl same) rest = rw (eq-eqb message.id id same, sym (ap test same) ∙ is) refl
    go false is (inl same) rest = rest ∙ rw (sym (ap test same) ∙ is) refl
    go true is (inr other) rest = rw (ne_eqb message.id id other) rest
    go false is (inr other) rest = rw (ne_eqb message.id id other) rest
