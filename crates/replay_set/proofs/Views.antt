-- A window by its fields, before and after a number is noted.
use Rattle.std.proofs.Common.{◌≡◌, ◌≢◌, ℕ, ◌+◌, ◌%◌, ◌<◌, ◌≤◌, ◌⊎◌, inl, inr, List, [], ◌∷◌, true, false, ◌&&◌, ◌||◌, ◌==◌, nat_lt, max, ap, sym, ◌∙◌, arith}
use Rattle.std.specs.List.{filter}
use Rattle.std.proofs.lemmas.Bool.Decides.{nat_tests}
use Rattle.std.proofs.lemmas.Bool.{cases_lt}
use Rattle.replay_set.specs.Ring.{is_marked}
use Rattle.replay_set.specs.Window.{Window, in_window, is_among, numbers_below, window_of, with_noted}
use Rattle.replay_set.proofs.Numbers.{same_passed, with_one_more}

abbrev pub viewed : ℕ → ℕ → ℕ → List ℕ → Window
viewed size base next words = record { size = size; base = base; next = next; noted = filter (is_marked words) (numbers_below next size) }

-- no number was noted
pub unnoted : (size base : ℕ) (words : List ℕ) → ((n : ℕ) → is_marked words n ≡ false) → viewed size base base words ≡ window_of size base []
unnoted size base words none =
    let same : filter (is_marked words) (numbers_below base size) ≡ in_window size base [] = same_passed (is_marked words) (is_among []) base size (λ m low high. none m) in
    λ i. record { size = size; base = base; next = base; noted = same i }

-- the fields after a number was noted
noted : (size base old next n : ℕ) (before after : List ℕ) → next ≡ max old (n + 1) →
    ((m : ℕ) → m < next → next ≤ m + size → is_marked after m ≡ ((n == m) || (nat_lt m old && is_marked before m))) →
    viewed size base next after ≡ with_noted (viewed size base old before) n
noted size base old next n before after top marks =
    let same : filter (is_marked after) (numbers_below next size) ≡ in_window size next (n ∷ filter (is_marked before) (numbers_below old size)) =
    same_passed (is_marked after) (is_among (n ∷ filter (is_marked before) (numbers_below old size))) next size
    (λ m low high. marks m low high ∙ sym (with_one_more (is_marked before) old size n m (omega arith) (cases_lt m old))) in
    ap (λ xs. record { size = size; base = base; next = next; noted = xs }) same
    ∙ ap (λ t. record { size = size; base = base; next = t; noted = in_window size t (n ∷ filter (is_marked before) (numbers_below old size)) }) top

-- the bit of another number of the window stands at another place
marked : (n next size m : ℕ) (middle after : List ℕ) → size ≤ 1024 → n < next → next ≤ n + size → m < next → next ≤ m + size →
    is_marked after n ≡ true → ((k : ℕ) → k % 1024 ≢ n % 1024 → is_marked after k ≡ is_marked middle k) →
    is_marked after m ≡ ((n == m) || is_marked middle m)
marked n next size m middle after small this_low this_high low high this others = go (cases_lt n m) (cases_lt m n)
  where
    other : (n == m) ≡ false → m % 1024 ≢ n % 1024 → is_marked after m ≡ ((n == m) || is_marked middle m)
    other apart places = rw apart (others m places)

    go : (n < m) ⊎ (m ≤ n) → (m < n) ⊎ (n ≤ m) → is_marked after m ≡ ((n == m) || is_marked middle m)
    go (inl p) q = other (grind (arith, nat_tests)) (λ e. omega arith)
    go p (inl q) = other (grind (arith, nat_tests)) (λ e. omega arith)
    go (inr p) (inr q) =
        let same : n ≡ m = omega arith in
        let here : (n == m) ≡ true = grind (arith, nat_tests) in
        rw here (ap (is_marked after) (sym same) ∙ this)

-- a number above the top
pub noted_above : (size base old n : ℕ) (before middle after : List ℕ) → size ≤ 1024 → old ≤ n →
    ((m : ℕ) → m < n + 1 → n + 1 ≤ m + 1024 → is_marked middle m ≡ (nat_lt m old && is_marked before m)) →
    is_marked after n ≡ true → ((m : ℕ) → m % 1024 ≢ n % 1024 → is_marked after m ≡ is_marked middle m) →
    viewed size base (n + 1) after ≡ with_noted (viewed size base old before) n
noted_above size base old n before middle after small above cleared this others =
    noted size base old (n + 1) n before after (omega arith) (λ m low high.
    marked n (n + 1) size m middle after small (omega arith) (omega arith) low high this others
    ∙ ap (λ b. (n == m) || b) (cleared m low (omega arith)))

-- a number up to the top
pub noted_below : (size base old n : ℕ) (before after : List ℕ) → size ≤ 1024 → n < old → old ≤ n + size →
    is_marked after n ≡ true → ((m : ℕ) → m % 1024 ≢ n % 1024 → is_marked after m ≡ is_marked before m) →
    viewed size base old after ≡ with_noted (viewed size base old before) n
noted_below size base old n before after small below within this others =
    noted size base old old n before after (omega arith) (λ m low high.
    let in_range : nat_lt m old ≡ true = grind (arith, nat_tests) in
    rw in_range (marked n old size m before after small below within low high this others))
