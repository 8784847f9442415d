-- The least Message ID that is not among messages that ascend by it.
use Rattle.std.proofs.Common.{◌≡◌, ◌≢◌, ℕ, zero, ◌+◌, ◌<◌, ◌≤◌, ◌⊎◌, inl, inr, ⊎_elim, List, [], ◌∷◌, sym, ◌∙◌, arith, eq-eqb}
use Rattle.std.specs.List.{Contains}
use Rattle.std.proofs.lemmas.Bool.{cases_eq, cases_lt, ne_eqb}
use Rattle.ike_window.specs.Kept.{KeptMessage, RiseFrom, message_ids_of, with_kept}
use Rattle.ike_window.specs.Requests.{IsLeastFree}
use Rattle.ike_window.specs.Stored.{least_free}
use Rattle.ike_window.proofs.Lows.{Contains-cases, Contains-more, Contains-nil, among_from, from_among}
use Rattle.ike_window.proofs.Orders.{NotFalling, among_inserted, lower_not_falling}

not_below : (least : ℕ) (kept : List KeptMessage) (m : ℕ) → NotFalling least kept → Contains (message_ids_of kept) m → least ≤ m
not_below least [] m falls among = Contains-nil m among
not_below least (message ∷ rest) m (above, falls) among =
    ⊎_elim (λ same. omega arith) (λ later. let from : message.id ≤ m = not_below message.id rest m falls later in omega arith)
    (Contains-cases message.id (message_ids_of rest) m among)

pub rising_not_falling : (least : ℕ) (kept : List KeptMessage) → RiseFrom least kept → NotFalling least kept
rising_not_falling least [] rising = tt
rising_not_falling least (message ∷ rest) (above, rising) =
    (above, lower_not_falling message.id (message.id + 1) rest (omega arith) (rising_not_falling (message.id + 1) rest rising))

-- what `least_free` gives is that
pub least_free_is : (from least : ℕ) (kept : List KeptMessage) → NotFalling least kept → IsLeastFree from (Contains (message_ids_of kept)) (least_free from kept)
least_free_is from least [] falls = record {
  from = omega arith;
  taken = λ m above below. absurd (omega arith);
  free = λ among. Contains-nil from among;
}
least_free_is from least (message ∷ rest) (above, falls) =
    go (cases_eq message.id from) (least_free_is (from + 1) message.id rest falls) (least_free_is from message.id rest falls)
  where
    go : (message.id ≡ from) ⊎ (message.id ≢ from) → IsLeastFree (from + 1) (Contains (message_ids_of rest)) (least_free (from + 1) rest) →
        IsLeastFree from (Contains (message_ids_of rest)) (least_free from rest) →
        IsLeastFree from (Contains (message_ids_of (message ∷ rest))) (least_free from (message ∷ rest))
    go (inl same) next stays = rw (eq-eqb message.id from same) (record {
      from = let up = next.from in omega arith;
      taken = λ m up below. ⊎_elim (λ here. (zero, omega arith, same ∙ sym here))
          (λ other. Contains-more message.id (message_ids_of rest) m (next.taken m (omega arith) below)) (cases_eq m from);
      free = λ among. ⊎_elim (λ is. let up = next.from in absurd (omega arith)) next.free
          (Contains-cases message.id (message_ids_of rest) (least_free (from + 1) rest) among);
    })
    go (inr other) next stays = rw (ne_eqb message.id from other) (record {
      from = stays.from;
      taken = λ m up below. Contains-more message.id (message_ids_of rest) m (stays.taken m up below);
      free = λ among. ⊎_elim (λ is. past is (cases_lt from (least_free from rest))) stays.free
          (Contains-cases message.id (message_ids_of rest) (least_free from rest) among);
    })
      where
        past : message.id ≡ least_free from rest → (from < least_free from rest) ⊎ (least_free from rest ≤ from) → ⊥
        past is (inl below) =
            let low : message.id ≤ from = not_below message.id rest from falls (stays.taken from (omega arith) below) in omega arith
        past is (inr up) = let at = stays.from in other (omega arith)

-- a message more among others
pub inserted_cases : (message : KeptMessage) (kept : List KeptMessage) (m : ℕ) → Contains (message_ids_of (with_kept message kept)) m →
    (m ≡ message.id) ⊎ Contains (message_ids_of kept) m
inserted_cases message kept m among =
    ⊎_elim (λ same. inl (sym same)) (λ later. inr later)
    (Contains-cases message.id (message_ids_of kept) m
    (from_among (message_ids_of (message ∷ kept)) m (sym (among_inserted message kept m) ∙ among_from (message_ids_of (with_kept message kept)) m among)))

pub inserted_among : (message : KeptMessage) (kept : List KeptMessage) (m : ℕ) → (m ≡ message.id) ⊎ Contains (message_ids_of kept) m →
    Contains (message_ids_of (with_kept message kept)) m
inserted_among message kept m either =
    from_among (message_ids_of (with_kept message kept)) m
    (among_inserted message kept m ∙ among_from (message_ids_of (message ∷ kept)) m (⊎_elim (λ same. (zero, omega arith, sym same))
    (λ later. Contains-more message.id (message_ids_of kept) m later) either))
