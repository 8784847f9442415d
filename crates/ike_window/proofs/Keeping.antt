-- What an end keeps of the requests that it answered, as it is kept.
use Rattle.std.proofs.Common.{◌≡◌, ℕ, ◌+◌, ◌-◌, ◌^◌, ◌<◌, ◌≤◌, ◌⊎◌, inl, inr, ⊎_elim, Bool, true, false, nat_le, max, ◌==◌, ◌&&◌, ◌||◌, List, filter, refl, sym, ap, ◌∙◌, arith}
use Rattle.std.proofs.lemmas.Bool.{cases_lt}
use Rattle.std.proofs.lemmas.Bool.Decides.{nat_tests}
use Rattle.std.specs.List.{Contains}
use Rattle.ike_window.specs.Kept.{AllBelow, KeptMessage, RiseFrom, message_ids_of, has_message_id, with_kept}
use Rattle.ike_window.specs.Requests.{IsLeastFree, IsNewRequest, IsRepeat}
use Rattle.ike_window.specs.Slots.{SlidingRing}
use Rattle.ike_window.specs.Stored.{least_free, raised_to, with_response}
use Rattle.ike_window.specs.Windows.{IsAnswered, IsWindow, Jumps, ResponseWindow, is_repeatable}
use Rattle.ike_window.proofs.Lows.{among_from, from_among, one_least_free}
use Rattle.ike_window.proofs.Orders.{NotFalling, all_other, among_inserted, inserted_not_falling}
use Rattle.ike_window.proofs.Rising.{among_where, below_filtered, below_higher, below_inserted, none_among, rise_filtered, rise_inserted}
use Rattle.ike_window.proofs.Stored.{least_free_is, rising_not_falling}

abbrev pub seen : ℕ → ℕ → SlidingRing → ResponseWindow
seen floor low ring = record { floor = floor; low = low; responses = ring.kept }

pub repeat_of : (floor low : ℕ) (ring : SlidingRing) (id : ℕ) → IsWindow floor low ring → has_message_id (message_ids_of ring.kept) id ≡ true →
    IsRepeat floor low (IsAnswered (seen floor low ring)) id
repeat_of floor low ring id is among = record {
  answered = inr
      (from_among (message_ids_of ring.kept) id among);
  from = is.from id among;
  near = is.near id among;
}

pub among_repeat : (floor low : ℕ) (ring : SlidingRing) (id : ℕ) → IsWindow floor low ring → IsRepeat floor low (IsAnswered (seen floor low ring)) id →
    has_message_id (message_ids_of ring.kept) id ≡ true
among_repeat floor low ring id is repeat = go repeat.answered
  where
    go : IsAnswered (seen floor low ring) id → has_message_id (message_ids_of ring.kept) id ≡ true
    go (inl below) = among_from (message_ids_of ring.kept) id (is.whole id below.0 below.1 repeat.near)
    go (inr among) = among_from (message_ids_of ring.kept) id among

pub new_not_among : (floor low : ℕ) (ring : SlidingRing) (id : ℕ) → IsNewRequest low (IsAnswered (seen floor low ring)) id →
    has_message_id (message_ids_of ring.kept) id ≡ false
new_not_among floor low ring id new = none_among (message_ids_of ring.kept) id (λ among. new.unanswered (inr among))

passes : (floor low id : ℕ) (b : Bool) → ((nat_le floor id && nat_le low (id + 8)) && b) ≡ true → (floor ≤ id) × (low ≤ id + 8) × (b ≡ true)
passes floor low id b passed = (
  (let x : floor ≤ id = grind (arith, nat_tests) in x),
  (let x : low ≤ id + 8 = grind (arith, nat_tests) in x),
  (let x : b ≡ true = grind (arith, nat_tests) in x),
)

passed : (floor low id : ℕ) (b : Bool) → floor ≤ id → low ≤ id + 8 → b ≡ true → ((nat_le floor id && nat_le low (id + 8)) && b) ≡ true
passed floor low id b from near is = grind (arith, nat_tests)

-- what is left after responses were dropped
pub settled : (floor from low : ℕ) (kept : List KeptMessage) (ring : SlidingRing) → floor ≤ from → RiseFrom 0 kept → AllBelow (from + 8) kept → AllBelow (2 ^ 32 - 1) kept →
    ((id : ℕ) → floor ≤ id → id < from → from ≤ id + 8 → has_message_id (message_ids_of kept) id ≡ true) →
    IsLeastFree from (Contains (message_ids_of kept)) low → ring.first ≡ max floor (low - 8) → ring.kept ≡ filter (is_repeatable floor low) kept →
    IsWindow floor low ring
settled floor from low kept ring up rising below end whole least first is = record {
  ordered = let above = least.from in omega arith;
  rising = rw is (rise_filtered (is_repeatable floor low) 0 kept rising);
  room_below = let above = least.from in omega arith;
  room_above = omega arith;
  from = λ id among. (left id among).0;
  near = λ id among. (left id among).1;
  below = let above : from ≤ low = least.from in
      rw is (below_filtered (is_repeatable floor low) (low + 8) kept (below_higher (from + 8) (low + 8) kept (omega arith) below));
  below_the_end = rw is (below_filtered (is_repeatable floor low) (2 ^ 32 - 1) kept end);
  free = λ among. least.free (from_among (message_ids_of kept) low (left low (among_from (message_ids_of ring.kept) low among)).2);
  whole = λ id above under near. from_among (message_ids_of ring.kept) id
      (all id ∙ passed floor low id (has_message_id (message_ids_of kept) id) above near (there id above under near));
}
  where
    all : (id : ℕ) → has_message_id (message_ids_of ring.kept) id ≡ ((nat_le floor id && nat_le low (id + 8)) && has_message_id (message_ids_of kept) id)
    all id = ap (λ ms. has_message_id (message_ids_of ms) id) is ∙ among_where (λ m. nat_le floor m && nat_le low (m + 8)) kept id

    left : (id : ℕ) → has_message_id (message_ids_of ring.kept) id ≡ true → (floor ≤ id) × (low ≤ id + 8) × (has_message_id (message_ids_of kept) id ≡ true)
    left id among = passes floor low id (has_message_id (message_ids_of kept) id) (sym (all id) ∙ among)

    there : (id : ℕ) → floor ≤ id → id < low → low ≤ id + 8 → has_message_id (message_ids_of kept) id ≡ true
    there id above under near = go (cases_lt id from)
      where
        go : (id < from) ⊎ (from ≤ id) → has_message_id (message_ids_of kept) id ≡ true
        go (inl less) = whole id above less (let up_to = least.from in omega arith)
        go (inr more) = among_from (message_ids_of kept) id (least.taken id more under)

-- what the storing of a response leaves
module _ (floor low new_low : ℕ) (old ring : SlidingRing) (message : KeptMessage) (is : IsWindow floor low old)
    (least : IsLeastFree low (Contains (message_ids_of (with_kept message old.kept))) new_low)
    (kept : ring.kept ≡ filter (is_repeatable floor new_low) (with_kept message old.kept)) where
  pub stored_window : IsNewRequest low (IsAnswered (seen floor low old)) message.id → ring.first ≡ max floor (new_low - 8) → IsWindow floor new_low ring
  stored_window new first =
      settled floor low new_low (with_kept message old.kept) ring is.ordered
      (rise_inserted 0 message old.kept (omega arith) is.rising (all_other (message_ids_of old.kept) message.id (new_not_among floor low old message.id new)))
      (below_inserted (low + 8) message old.kept new.within is.below) (below_inserted (2 ^ 32 - 1) message old.kept new.below_the_end is.below_the_end)
      (λ id above under near. among_inserted message old.kept id
      ∙ either (message.id == id) (has_message_id (message_ids_of old.kept) id) (among_from (message_ids_of old.kept) id (is.whole id above under near)))
      least first kept
    where
      either : (a b : Bool) → b ≡ true → (a || b) ≡ true
      either true b so = refl
      either false b so = so

  pub stored_as : seen floor new_low ring ≡ with_response message (seen floor low old)
  stored_as = λ i. record { floor = floor; low = lows i; responses = (kept ∙ ap (λ n. filter (is_repeatable floor n) all) lows) i }
    where
      all : List KeptMessage
      all = with_kept message old.kept

      falls : NotFalling 0 all
      falls = inserted_not_falling message 0 old.kept (omega arith) (rising_not_falling 0 old.kept is.rising)

      lows : new_low ≡ least_free low all
      lows = one_least_free low new_low (least_free low all) (Contains (message_ids_of all)) least (least_free_is low 0 all falls)

-- what a jump leaves
module _ (floor low to new_low : ℕ) (old ring : SlidingRing) (is : IsWindow floor low old)
    (least : IsLeastFree (max low to) (Contains (message_ids_of old.kept)) new_low)
    (kept : ring.kept ≡ filter (is_repeatable (max floor to) new_low) old.kept) where
  pub jumped_window : ring.first ≡ max (max floor to) (new_low - 8) → IsWindow (max floor to) new_low ring
  jumped_window first =
      settled (max floor to) (max low to) new_low old.kept ring (let a = is.ordered in omega arith) is.rising
      (below_higher (low + 8) (max low to + 8) old.kept (omega arith) is.below) is.below_the_end
      (λ id above under near. among_from (message_ids_of old.kept) id (is.whole id (omega arith) (omega arith) (omega arith)))
      least first kept

  pub jumps_of : Jumps to (seen floor low old) (seen (max floor to) new_low ring)
  jumps_of = record {
    floor = refl;
    low = record {
      from = let a = is.ordered in let b = least.from in omega arith;
      taken = λ m above under. ⊎_elim (λ less. inl (omega arith, omega arith)) (λ more. inr (least.taken m more under)) (cases_lt m (max low to));
      free = λ either. ⊎_elim (λ below. let b = least.from in absurd (omega (arith, below.1))) least.free either;
    };
    responses = kept;
  }

  pub jumped_as : seen (max floor to) new_low ring ≡ raised_to to (seen floor low old)
  jumped_as = λ i. record {
    floor = max floor to;
    low = lows i;
    responses = (kept ∙ ap (λ n. filter (is_repeatable (max floor to) n) old.kept) lows) i;
  }
    where
      lows : new_low ≡ least_free (max low to) old.kept
      lows =
          one_least_free (max low to) new_low (least_free (max low to) old.kept) (Contains (message_ids_of old.kept)) least
          (least_free_is (max low to) 0 old.kept (rising_not_falling 0 old.kept is.rising))

-- the two tests of a response are one
pub one_test : (floor low : ℕ) (kept : List KeptMessage) →
    filter (λ message. nat_le (max floor (low - 8)) message.id) kept ≡ filter (is_repeatable floor low) kept
one_test floor low kept = λ i. filter (λ message. same floor low message.id i) kept
  where
    same : (floor low id : ℕ) → nat_le (max floor (low - 8)) id ≡ (nat_le floor id && nat_le low (id + 8))
    same floor low id = grind (arith, nat_tests)
