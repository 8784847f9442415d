-- The least number that is not among some identifiers.
use Rattle.std.proofs.Common.{◌≡◌, ◌≢◌, ℕ, zero, suc, ◌<◌, ◌≤◌, ◌⊎◌, inl, inr, true, false, ◌||◌, ◌==◌, List, [], ◌∷◌, Option, Some, None, MatchOption, refl, sym, ◌∙◌, arith, eq-eqb}
use Rattle.std.specs.List.{Contains}
use Rattle.std.proofs.lemmas.Bool.{cases_eq, cases_lt, ne_eqb}
use Rattle.std.proofs.lemmas.Bool.Decides.{nat_tests}
use Rattle.ike_window.specs.Kept.{KeptMessage, message_ids_of, has_message_id, kept_octets}
use Rattle.ike_window.specs.Requests.{IsLeastFree}
use Rattle.ike_window.proofs.Orders.{among_from_octets, not_among_from_octets, true_not_false}

pub Contains-more : (id : ℕ) (ids : List ℕ) (m : ℕ) → Contains ids m → Contains (id ∷ ids) m
Contains-more id ids m (k, within, is) = (suc k, omega arith, is)

pub Contains-cases : (id : ℕ) (ids : List ℕ) (m : ℕ) → Contains (id ∷ ids) m → (id ≡ m) ⊎ Contains ids m
Contains-cases id ids m (zero, within, is) = inl is
Contains-cases id ids m (suc k, within, is) = inr (k, omega arith, is)

pub Contains-nil : {X : Type 0} (m : ℕ) → Contains [] m → X
Contains-nil m (k, within, is) = absurd (omega arith)

pub among_from : (ids : List ℕ) (m : ℕ) → Contains ids m → has_message_id ids m ≡ true
among_from [] m among = Contains-nil m among
among_from (id ∷ ids) m among = go (Contains-cases id ids m among) (λ later. among_from ids m later)
  where
    go : (id ≡ m) ⊎ Contains ids m → (Contains ids m → has_message_id ids m ≡ true) → ((id == m) || has_message_id ids m) ≡ true
    go (inl same) rest = rw (eq-eqb id m same) refl
    go (inr later) rest = let sure : has_message_id ids m ≡ true = rest later in grind (arith, nat_tests)

pub from_among : (ids : List ℕ) (m : ℕ) → has_message_id ids m ≡ true → Contains ids m
from_among [] m sure = absurd (cc)
from_among (id ∷ ids) m sure = go (cases_eq id m) (λ later. from_among ids m later) sure
  where
    go : (id ≡ m) ⊎ (id ≢ m) → (has_message_id ids m ≡ true → Contains ids m) → ((id == m) || has_message_id ids m) ≡ true → Contains (id ∷ ids) m
    go (inl same) rest so = (zero, omega arith, same)
    go (inr other) rest so = Contains-more id ids m (let no : (id == m) ≡ false = ne_eqb id m other in rest (rw no at so))

-- octets are kept under an identifier exactly where it is among those of the messages
pub octets_contained : {X : Type 0} (id : ℕ) (kept : List KeptMessage) → (result : Option X) (octets : X → List ℕ) →
    MatchOption result (kept_octets id kept ≡ None) (λ x. kept_octets id kept ≡ Some (octets x)) →
    MatchOption result (¬ Contains (message_ids_of kept) id) (λ x. Contains (message_ids_of kept) id)
octets_contained id kept None octets is = λ among. true_not_false (sym (among_from (message_ids_of kept) id among) ∙ not_among_from_octets id kept is)
octets_contained id kept (Some x) octets is = from_among (message_ids_of kept) id (among_from_octets id (octets x) kept is)

-- there is one least free number
pub one_least_free : (n a b : ℕ) (P : ℕ → Type 0) → IsLeastFree n P a → IsLeastFree n P b → a ≡ b
one_least_free n a b P first second = go (cases_lt a b) (cases_lt b a)
  where
    go : (a < b) ⊎ (b ≤ a) → (b < a) ⊎ (a ≤ b) → a ≡ b
    go (inl less) other = absurd (first.free (second.taken a first.from less))
    go (inr above) (inl less) = absurd (second.free (first.taken b second.from less))
    go (inr above) (inr below) = omega arith

-- the same of another notion that is the same from n on
pub free_alike : (n low : ℕ) (P Q : ℕ → Type 0) → ((m : ℕ) → n ≤ m → (P m → Q m) × (Q m → P m)) → IsLeastFree n P low → IsLeastFree n Q low
free_alike n low P Q same least = record {
  from = least.from;
  taken = λ m from below. (same m from).0 (least.taken m from below);
  free = λ holds. least.free ((same low least.from).1 holds);
}
