-- What a ring keeps after a change of its slots.
use Rattle.std.proofs.Common.{◌≡◌, ◌≢◌, ℕ, zero, suc, ◌+◌, ◌%◌, ◌<◌, ◌≤◌, ◌⊎◌, inl, inr, Bool, true, false, not, cond, nat_le, ◌==◌, ◌||◌, if◌then◌else◌, List, [], ◌∷◌, ◌++◌, filter, length, get_or, set, Option, Some, None, is_some, refl, sym, ap, ◌∙◌, arith, eq-eqb, take, drop, take_all}
use Rattle.std.specs.Prelude.{map, replicate}
use Rattle.std.proofs.lemmas.Bool.{cases_eq, ne_eqb}
use Rattle.std.proofs.lemmas.Bool.Decides.{nat_tests}
use Rattle.std.proofs.lemmas.List.{append-nil, drop_all, length-map, length-set}
use Rattle.ike_window.specs.Kept.{AllBelow, KeptMessage, message_ids_of, has_message_id, kept_octets, with_kept}
use Rattle.ike_window.specs.Slots.{IsRing, from_on, messages_from, octets_at, octets_in_slot}
use Rattle.ike_window.proofs.Orders.{all_other, among_from_octets, not_among_from_octets, octets_inserted, true_not_false}
use Rattle.ike_window.proofs.Rising.{all_among, below_contains, rise_filtered, rise_inserted}
use Rattle.ike_window.proofs.Slots.{octets_from_on, octets_ring, octets_set, octets_tested, ring_of, rise_messages, same_messages}

-- slots without messages
abbrev none_kept : Option KeptMessage
none_kept = None

empty_slot : (n k : ℕ) → get_or (replicate n None) k none_kept ≡ none_kept
empty_slot zero k = refl
empty_slot (suc n) zero = refl
empty_slot (suc n) (suc k) = empty_slot n k

no_octets : (slots : List (Option KeptMessage)) (n id : ℕ) → slots ≡ replicate n None → octets_at slots id ≡ None
no_octets slots n id none =
    ap (λ ss. octets_in_slot (get_or ss (id % length slots) None) id) none ∙ ap (λ s. octets_in_slot s id) (empty_slot n (id % length slots))

pub empty_ring : (first n : ℕ) (slots : List (Option KeptMessage)) → slots ≡ replicate n None → IsRing first slots
empty_ring first n slots none = ring_of first slots (λ id octets is. absurd (let no : None ≡ Some octets = sym (no_octets slots n id none) ∙ is in cc))

pub no_messages : (n : ℕ) (slots : List (Option KeptMessage)) (count from : ℕ) → slots ≡ replicate n None → messages_from slots count from ≡ []
no_messages n slots zero from none = refl
no_messages n slots (suc count) from none = rw (no_octets slots n from none) (no_messages n slots count (from + 1) none)

-- one message more
module _ (first n : ℕ) (slots : List (Option KeptMessage)) (message : KeptMessage) (some : 0 < n) (size : n ≡ length slots) (ring : IsRing first slots)
    (from : first ≤ message.id) (within : message.id < first + n) where
  pub inserted_ring : IsRing first (set slots (message.id % n) (Some message))
  inserted_ring = ring_of first (set slots (message.id % n) (Some message)) all
    where
      long : length (set slots (message.id % n) (Some message)) ≡ n
      long = length-set slots (message.id % n) (Some message) ∙ sym size

      foreign : (id : ℕ) → id ≢ message.id → octets_in_slot (Some message) id ≡ None
      foreign id other = rw (ne_eqb message.id id (λ is. other (sym is))) refl

      all : (id : ℕ) (octets : List ℕ) → octets_at (set slots (message.id % n) (Some message)) id ≡ Some octets →
          (first ≤ id) × (id < first + length (set slots (message.id % n) (Some message)))
      all id octets is =
          go (cases_eq message.id id) (sym (octets_set first n slots message.id id (Some message) some size ring from within (foreign id)) ∙ is)
        where
          go : (message.id ≡ id) ⊎ (message.id ≢ id) → (if message.id == id then octets_in_slot (Some message) message.id else octets_at slots id) ≡ Some octets →
              (first ≤ id) × (id < first + length (set slots (message.id % n) (Some message)))
          go (inl same) so = (omega arith, omega (arith, long))
          go (inr other) so =
              let old : octets_at slots id ≡ Some octets = rw (ne_eqb message.id id other) at so in
              (ring.from id (ap is_some old), (let high = ring.below id (ap is_some old) in omega (arith, long, size)))

  pub inserted_messages : has_message_id (message_ids_of (messages_from slots n first)) message.id ≡ false →
      messages_from (set slots (message.id % n) (Some message)) n first ≡ with_kept message (messages_from slots n first)
  inserted_messages free =
      same_messages first first (messages_from after n first) (with_kept message kept)
      (rise_messages after n first)
      (rise_inserted first message kept from (rise_messages slots n first) (all_other (message_ids_of kept) message.id free))
      (λ id. octets_ring first n after id inserted_ring
      (size ∙ sym (length-set slots (message.id % n) (Some message)))
      ∙ octets_set first n slots message.id id (Some message) some size ring from within (foreign id)
      ∙ here id (message.id == id)
      ∙ ap (λ o. if message.id == id then Some message.octets else o) (sym (octets_ring first n slots id ring size))
      ∙ sym (octets_inserted message kept id))
    where
      after : List (Option KeptMessage)
      after = set slots (message.id % n) (Some message)

      kept : List KeptMessage
      kept = messages_from slots n first

      foreign : (id : ℕ) → id ≢ message.id → octets_in_slot (Some message) id ≡ None
      foreign id other = rw (ne_eqb message.id id (λ is. other (sym is))) refl

      here : (id : ℕ) (b : Bool) → (if b then octets_in_slot (Some message) message.id else octets_at slots id) ≡
          (if b then Some message.octets else octets_at slots id)
      here id true = rw (eq-eqb message.id message.id refl) refl
      here id false = refl

-- one message less
module _ (first n : ℕ) (slots : List (Option KeptMessage)) (id : ℕ) (some : 0 < n) (size : n ≡ length slots) (ring : IsRing first slots)
    (from : first ≤ id) (within : id < first + n) where
  pub removed_ring : IsRing first (set slots (id % n) None)
  removed_ring = ring_of first (set slots (id % n) None) all
    where
      all : (other : ℕ) (octets : List ℕ) → octets_at (set slots (id % n) None) other ≡ Some octets →
          (first ≤ other) × (other < first + length (set slots (id % n) None))
      all other octets is =
          go (cases_eq id other) (sym (octets_set first n slots id other None some size ring from within (λ differs. refl)) ∙ is)
        where
          go : (id ≡ other) ⊎ (id ≢ other) → (if id == other then None else octets_at slots other) ≡ Some octets →
              (first ≤ other) × (other < first + length (set slots (id % n) None))
          go (inl same) so = absurd (let no : None ≡ Some octets = rw (eq-eqb id other same) at so in cc)
          go (inr differs) so =
              let old : octets_at slots other ≡ Some octets = rw (ne_eqb id other differs) at so in
              (ring.from other (ap is_some old), (let high = ring.below other (ap is_some old) in omega (arith, length-set slots (id % n) None)))

  pub removed_messages :
      messages_from (set slots (id % n) None) n first ≡ filter (λ message. not (message.id == id)) (messages_from slots n first)
  removed_messages =
      same_messages first first (messages_from after n first) (filter (λ message. not (message.id == id)) kept)
      (rise_messages after n first)
      (rise_filtered (λ message. not (message.id == id)) first kept (rise_messages slots n first))
      (λ other. octets_ring first n after other removed_ring (size ∙ sym (length-set slots (id % n) None))
      ∙ octets_set first n slots id other None some size ring from within (λ differs. refl)
      ∙ turned other (cases_eq id other)
      ∙ ap (λ o. if not (other == id) then o else None) (sym (octets_ring first n slots other ring size))
      ∙ sym (octets_tested (λ m. not (m == id)) kept other))
    where
      after : List (Option KeptMessage)
      after = set slots (id % n) None

      kept : List KeptMessage
      kept = messages_from slots n first

      turned : (other : ℕ) → (id ≡ other) ⊎ (id ≢ other) →
          (if id == other then None else octets_at slots other) ≡ (if not (other == id) then octets_at slots other else None)
      turned other (inl same) = rw (eq-eqb id other same, eq-eqb other id (sym same)) refl
      turned other (inr differs) = rw (ne_eqb id other differs, ne_eqb other id (λ is. differs (sym is))) refl

-- where there was none of this Message ID, nothing goes
pub nothing_removed : (id : ℕ) (kept : List KeptMessage) → has_message_id (message_ids_of kept) id ≡ false →
    kept ≡ filter (λ message. not (message.id == id)) kept
nothing_removed id [] none = refl
nothing_removed id (message ∷ kept) none = go (message.id == id) refl none (nothing_removed id kept)
  where
    go : (b : Bool) → (message.id == id) ≡ b → (b || has_message_id (message_ids_of kept) id) ≡ false →
        (has_message_id (message_ids_of kept) id ≡ false → kept ≡ filter (λ m. not (m.id == id)) kept) →
        message ∷ kept ≡ cond (not b) (message ∷ filter (λ m. not (m.id == id)) kept) (filter (λ m. not (m.id == id)) kept)
    go true is so rest = absurd (cc)
    go false is so rest = ap (λ ms. message ∷ ms) (rest so)

-- the ring has slots from another Message ID on
module _ (first to n : ℕ) (slots : List (Option KeptMessage)) (some : 0 < n) (size : n ≡ length slots) (ring : IsRing first slots)
    (below : AllBelow (to + n) (messages_from slots n first)) where
  pub moved_ring : IsRing to (map (from_on to) slots)
  moved_ring = ring_of to (map (from_on to) slots) all
    where
      all : (id : ℕ) (octets : List ℕ) → octets_at (map (from_on to) slots) id ≡ Some octets → (to ≤ id) × (id < to + length (map (from_on to) slots))
      all id octets is = go (nat_le to id) refl (sym (octets_from_on to id slots (rw (← size) some)) ∙ is)
        where
          go : (b : Bool) → nat_le to id ≡ b → (if b then octets_at slots id else None) ≡ Some octets → (to ≤ id) × (id < to + length (map (from_on to) slots))
          go true up so =
              let high : id < to + n = below_contains (to + n) (messages_from slots n first) id below
              (among_from_octets id octets (messages_from slots n first) (octets_ring first n slots id ring size ∙ so)) in
              ((let from : to ≤ id = grind (arith, nat_tests) in from), omega (arith, length-map slots (from_on to), size))
          go false up so = absurd (cc)

  pub moved_messages :
      messages_from (map (from_on to) slots) n to ≡ filter (λ message. nat_le to message.id) (messages_from slots n first)
  moved_messages =
      same_messages to first (messages_from after n to) (filter (λ message. nat_le to message.id) kept)
      (rise_messages after n to)
      (rise_filtered (λ message. nat_le to message.id) first kept (rise_messages slots n first))
      (λ id. octets_ring to n after id moved_ring (size ∙ sym (length-map slots (from_on to)))
      ∙ octets_from_on to id slots (rw (← size) some)
      ∙ ap (λ o. if nat_le to id then o else None) (sym (octets_ring first n slots id ring size))
      ∙ sym (octets_tested (λ m. nat_le to m) kept id))
    where
      after : List (Option KeptMessage)
      after = map (from_on to) slots

      kept : List KeptMessage
      kept = messages_from slots n first

-- a loop that went over all of a list
pub mapped_all : {X : Type 0} (f : X → X) (xs ys : List X) (i : ℕ) → length xs ≤ i → ys ≡ map f (take i xs) ++ drop i xs → ys ≡ map f xs
mapped_all f xs ys i all is = is ∙ (λ j. map f (take_all i xs all j) ++ drop_all i xs all j) ∙ append-nil (map f xs)

-- the Message IDs of a ring have slots
pub in_ring : (first n : ℕ) (slots : List (Option KeptMessage)) (id : ℕ) → n ≡ length slots → IsRing first slots →
    has_message_id (message_ids_of (messages_from slots n first)) id ≡ true → (first ≤ id) × (id < first + n)
in_ring first n slots id size ring among = go (kept_octets id (messages_from slots n first)) refl
  where
    go : (o : Option (List ℕ)) → kept_octets id (messages_from slots n first) ≡ o → (first ≤ id) × (id < first + n)
    go None is = absurd (true_not_false (sym among ∙ not_among_from_octets id (messages_from slots n first) is))
    go (Some octets) is =
        let kept : is_some (octets_at slots id) ≡ true = ap is_some (sym (octets_ring first n slots id ring size) ∙ is) in
        (ring.from id kept, (let high = ring.below id kept in omega (arith, size)))

pub below_ring : (first n : ℕ) (slots : List (Option KeptMessage)) → n ≡ length slots → IsRing first slots → AllBelow (first + n) (messages_from slots n first)
below_ring first n slots size ring =
    all_among (λ id. id < first + n) (messages_from slots n first) (λ id among. (in_ring first n slots id size ring among).1)
