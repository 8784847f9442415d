-- The window of a list of numbers.
use Rattle.std.proofs.Common.{◌≡◌, ℕ, zero, suc, ◌+◌, ◌<◌, ◌≤◌, ◌⊎◌, inl, inr, List, [], ◌∷◌, Bool, true, false, ◌&&◌, ◌||◌, if◌then◌else◌, ◌==◌, nat_lt, max, length, get_or, refl, ap, sym, ◌∙◌, arith}
use Rattle.std.specs.List.{filter, All, Contains}
use Rattle.std.proofs.lemmas.List.{get_or_default}
use Rattle.std.proofs.lemmas.List.Elements.{All-nil, All-cons, All-weaker, All-contains}
use Rattle.std.proofs.lemmas.List.Folds.{list_any_none, list_any_at}
use Rattle.std.proofs.lemmas.Bool.Decides.{nat_tests}
use Rattle.std.proofs.lemmas.Bool.{cases_lt}
use Rattle.replay_set.specs.declared.judgement.Judgement.TheVariants.{Stale, Seen, Fresh}
use Rattle.replay_set.specs.Window.{Window, in_window, is_among, is_stale, is_noted, judged, next_noted, numbers_below, window_of}
use Rattle.replay_set.specs.Laws.{NotingAddsTheNumber, JudgingByNumbers, TopIsTheGreatest}

-- each number is below the next one
pub All-next_of : (base : ℕ) (numbers : List ℕ) → All (λ n. n < next_noted base numbers) numbers
All-next_of base [] = All-nil (λ n. n < base)
All-next_of base (n ∷ numbers) =
    All-cons (λ m. m < max (next_noted base numbers) (n + 1)) n numbers (omega arith)
    (All-weaker (λ m. m < next_noted base numbers) (λ m. m < max (next_noted base numbers) (n + 1)) (λ m h. omega arith) numbers (All-next_of base numbers))

pub base_le_next_of : (base : ℕ) (numbers : List ℕ) → base ≤ next_noted base numbers
base_le_next_of base [] = omega arith
base_le_next_of base (n ∷ numbers) = omega (arith, base_le_next_of base numbers)

-- a list has what its rest has
Contains-cons : (n : ℕ) (numbers : List ℕ) (m : ℕ) → Contains numbers m → Contains (n ∷ numbers) m
Contains-cons n numbers m (k, lt, e) = (suc k, omega arith, e)

pub next_of_least : (base : ℕ) (numbers : List ℕ) → (next_noted base numbers ≡ base) ⊎ ((top : ℕ) × Contains numbers top × (next_noted base numbers ≡ top + 1))
next_of_least base [] = inl refl
next_of_least base (n ∷ numbers) = go (cases_lt n (next_noted base numbers)) (next_of_least base numbers)
  where
    go : (n < next_noted base numbers) ⊎ (next_noted base numbers ≤ n)
        → (next_noted base numbers ≡ base) ⊎ ((top : ℕ) × Contains numbers top × (next_noted base numbers ≡ top + 1))
        → (max (next_noted base numbers) (n + 1) ≡ base) ⊎ ((top : ℕ) × Contains (n ∷ numbers) top × (max (next_noted base numbers) (n + 1) ≡ top + 1))
    go (inl low) (inl none) = inl (omega arith)
    go (inl low) (inr (top, among, is)) = inr (top, Contains-cons n numbers top among, omega arith)
    go (inr high) least = inr (n, (zero, omega arith, refl), omega arith)

pub top_is_greatest : TopIsTheGreatest
top_is_greatest base numbers = record {
  above_all = All-next_of base numbers;
  from_base = base_le_next_of base numbers;
  least = next_of_least base numbers;
}

-- two tests that agree in a window pass the same numbers of it
pub same_passed : (p q : ℕ → Bool) (next size : ℕ) → ((m : ℕ) → m < next → next ≤ m + size → p m ≡ q m) → filter p (numbers_below next size) ≡ filter q (numbers_below next size)
same_passed p q next zero same = refl
same_passed p q zero (suc size) same = refl
same_passed p q (suc n) (suc size) same =
    let first : p n ≡ q n = same n (omega arith) (omega arith) in
    let rest : filter p (numbers_below n size) ≡ filter q (numbers_below n size) = same_passed p q n size (λ m low high. same m (omega arith) (omega arith)) in
    λ i. if first i then n ∷ rest i else rest i

-- another number before some, or not
skipped : (b : Bool) (n m : ℕ) (numbers : List ℕ) → (n == m) ≡ false → is_among (if b then n ∷ numbers else numbers) m ≡ is_among numbers m
skipped true n m numbers other = ap (λ d. d || is_among numbers m) other
skipped false n m numbers other = refl

-- this number before others, or not
met : (b : Bool) (n m : ℕ) (numbers : List ℕ) → (n == m) ≡ true → is_among numbers m ≡ false → is_among (if b then n ∷ numbers else numbers) m ≡ b
met true n m numbers this none = ap (λ d. d || is_among numbers m) this
met false n m numbers this none = none

-- a number that is not below `next` is not among those that pass
pub passed_above : (p : ℕ → Bool) (next size m : ℕ) → next ≤ m → is_among (filter p (numbers_below next size)) m ≡ false
passed_above p next zero m h = refl
passed_above p zero (suc size) m h = refl
passed_above p (suc n) (suc size) m h =
    let other : (n == m) ≡ false = grind (arith, nat_tests) in
    skipped (p n) n m (filter p (numbers_below n size)) other ∙ passed_above p n size m (omega arith)

-- a number in the window is among those that pass exactly where it passes
pub passed_within : (p : ℕ → Bool) (next size m : ℕ) → m < next → next ≤ m + size → is_among (filter p (numbers_below next size)) m ≡ p m
passed_within p next zero m low high = absurd (omega arith)
passed_within p zero (suc size) m low high = absurd (omega arith)
passed_within p (suc n) (suc size) m low high = go (cases_lt m n) (λ less. passed_within p n size m less (omega arith))
  where
    go : (m < n) ⊎ (n ≤ m) → (m < n → is_among (filter p (numbers_below n size)) m ≡ p m) → is_among (filter p (numbers_below (suc n) (suc size))) m ≡ p m
    go (inl less) rest =
        let other : (n == m) ≡ false = grind (arith, nat_tests) in
        skipped (p n) n m (filter p (numbers_below n size)) other ∙ rest less
    go (inr last) rest =
        let this : (n == m) ≡ true = grind (arith, nat_tests) in
        let same : n ≡ m = omega arith in
        met (p n) n m (filter p (numbers_below n size)) this (passed_above p n size m last) ∙ ap p same

-- no number is among those below it
among_lower : (numbers : List ℕ) (bound m : ℕ) → All (λ n. n < bound) numbers → bound ≤ m → is_among numbers m ≡ false
among_lower numbers bound m all h =
    list_any_none (λ n. n == m) numbers (All-weaker (λ n. n < bound) (λ n. (n == m) ≡ false) (λ n low. unequal n low) numbers all)
  where
    unequal : (n : ℕ) → n < bound → (n == m) ≡ false
    unequal n low = grind (arith, nat_tests)

-- a number is among some exactly where they contain it
Contains-is_among : (numbers : List ℕ) (n : ℕ) → Contains numbers n → is_among numbers n ≡ true
Contains-is_among numbers n (k, within, e) = list_any_at (λ m. m == n) numbers k n within (rw e (grind (arith, nat_tests)))

is_among-not_Contains : (numbers : List ℕ) (n : ℕ) → ¬ Contains numbers n → is_among numbers n ≡ false
is_among-not_Contains numbers n absent = list_any_none (λ m. m == n) numbers (λ k d within. unequal k d within (cases_lt (get_or numbers k d) n) (cases_lt n (get_or numbers k d)))
  where
    unequal : (k : ℕ) (d : ℕ) → k < length numbers → (get_or numbers k d < n) ⊎ (n ≤ get_or numbers k d) → (n < get_or numbers k d) ⊎ (get_or numbers k d ≤ n) → (get_or numbers k d == n) ≡ false
    unequal k d within (inl p) q = grind (arith, nat_tests)
    unequal k d within p (inl q) = grind (arith, nat_tests)
    unequal k d within (inr p) (inr q) = absurd (absent (k, within, get_or_default numbers k n d within ∙ omega arith))

-- a number more, and those that a test passed in the window before: a number of the window moved up is among these
-- exactly where it is this one, or was in the window before and passed
pub with_one_more : (p : ℕ → Bool) (next size n m : ℕ) → next ≤ m + size → (m < next) ⊎ (next ≤ m) →
    is_among (n ∷ filter p (numbers_below next size)) m ≡ ((n == m) || (nat_lt m next && p m))
with_one_more p next size n m high (inl low) =
    let below : nat_lt m next ≡ true = grind (arith, nat_tests) in
    rw below (ap (λ b. (n == m) || b) (passed_within p next size m low high))
with_one_more p next size n m high (inr above) =
    let beyond : nat_lt m next ≡ false = grind (arith, nat_tests) in
    rw beyond (ap (λ b. (n == m) || b) (passed_above p next size m above))

pub noting_adds : NotingAddsTheNumber
noting_adds size base numbers n =
    let same : in_window size (max (next_noted base numbers) (n + 1)) (n ∷ in_window size (next_noted base numbers) numbers) ≡ in_window size (max (next_noted base numbers) (n + 1)) (n ∷ numbers) =
    same_passed (is_among (n ∷ in_window size (next_noted base numbers) numbers)) (is_among (n ∷ numbers)) (max (next_noted base numbers) (n + 1)) size
    (λ m low high. ap (λ b. (n == m) || b) (either m (omega arith) (cases_lt m (next_noted base numbers)))) in
    λ i. record { size = size; base = base; next = max (next_noted base numbers) (n + 1); noted = same i }
  where
    either : (m : ℕ) → next_noted base numbers ≤ m + size → (m < next_noted base numbers) ⊎ (next_noted base numbers ≤ m) → is_among (in_window size (next_noted base numbers) numbers) m ≡ is_among numbers m
    either m high (inl low) = passed_within (is_among numbers) (next_noted base numbers) size m low high
    either m high (inr above) =
        passed_above (is_among numbers) (next_noted base numbers) size m above ∙ sym (among_lower numbers (next_noted base numbers) m (All-next_of base numbers) above)

-- a number that a window finds fresh is not below the window, and not below the base
pub fresh_reached : (window : Window) (n : ℕ) → judged window n ≡ Fresh → (window.base ≤ n) × (window.next ≤ n + window.size)
fresh_reached window n fresh = go (is_stale window n) refl
  where
    go : (b : Bool) → is_stale window n ≡ b → (window.base ≤ n) × (window.next ≤ n + window.size)
    go false t = grind (arith, nat_tests)
    go true t = let stale : judged window n ≡ Stale = rw t in absurd (cc)

pub judged-below_base : (window : Window) (n : ℕ) → n < window.base → judged window n ≡ Stale
judged-below_base window n h =
    let stale : is_stale window n ≡ true = grind (arith, nat_tests) in
    rw stale

pub judged-below_window : (window : Window) (n : ℕ) → n + window.size < window.next → judged window n ≡ Stale
judged-below_window window n h =
    let stale : is_stale window n ≡ true = grind (arith, nat_tests) in
    rw stale

pub judged-noted : (window : Window) (n : ℕ) → window.base ≤ n → window.next ≤ n + window.size → is_noted window n ≡ true → judged window n ≡ Seen
judged-noted window n from within noted =
    let reached : is_stale window n ≡ false = grind (arith, nat_tests) in
    rw (reached, noted)

pub judged-not_noted : (window : Window) (n : ℕ) → window.base ≤ n → window.next ≤ n + window.size → is_noted window n ≡ false → judged window n ≡ Fresh
judged-not_noted window n from within noted =
    let reached : is_stale window n ≡ false = grind (arith, nat_tests) in
    rw (reached, noted)

pub judging_by : JudgingByNumbers
judging_by size base numbers n = record {
  below_base = judged-below_base (window_of size base numbers) n;
  below_window = judged-below_window (window_of size base numbers) n;
  noted = λ from within has.
      let low : n < next_noted base numbers = All-contains (λ m. m < next_noted base numbers) numbers n (All-next_of base numbers) has in
      judged-noted (window_of size base numbers) n from within
      (passed_within (is_among numbers) (next_noted base numbers) size n low within ∙ Contains-is_among numbers n has);
  not_noted = λ from within absent.
      judged-not_noted (window_of size base numbers) n from within (unnoted within absent (cases_lt n (next_noted base numbers)));
}
  where
    unnoted : next_noted base numbers ≤ n + size → ¬ Contains numbers n → (n < next_noted base numbers) ⊎ (next_noted base numbers ≤ n) → is_noted (window_of size base numbers) n ≡ false
    unnoted within absent (inl low) = passed_within (is_among numbers) (next_noted base numbers) size n low within ∙ is_among-not_Contains numbers n absent
    unnoted within absent (inr high) = passed_above (is_among numbers) (next_noted base numbers) size n high
