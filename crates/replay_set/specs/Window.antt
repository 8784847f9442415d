-- The receive window of ESP (RFC 4303, section 3.4.3 and Appendix A).
use Rattle.std.specs.Prelude.{◌≡◌, ℕ, zero, suc, ◌+◌, ◌%◌, ◌^◌, ◌<◌, ◌≤◌, ◌⊎◌, ◌==◌, ◌||◌}
use Rattle.std.specs.Prelude.{List, [], ◌∷◌, Bool, max, filter, nat_lt, if◌then◌else◌}
use Rattle.std.specs.List.{list_any}
use Rattle.replay_set.specs.declared.judgement.Judgement.{Judgement}
use Rattle.replay_set.specs.declared.judgement.Judgement.TheVariants.{Stale, Seen, Fresh}

-- a receive window. `next` is one above the top, and the top is the greatest noted number, or one
-- below the base where none was noted. `noted` has the noted numbers above the top less the size,
-- the greatest first
pub record Window : Type 0 where
  pub size : ℕ
  pub base : ℕ
  pub next : ℕ
  pub noted : List ℕ

abbrev pub IsWindowSize : ℕ → Type 0
IsWindowSize size = (size ≡ 64) ⊎ (size ≡ 128) ⊎ (size ≡ 256) ⊎ (size ≡ 512) ⊎ (size ≡ 1024)

-- a number in the window or above it, of the 2^32 from the least of the window on, that has these
-- low 32 bits
pub record IsMeant (window : Window) (low32 n : ℕ) : Type 0 where
  pub reached : window.next ≤ n + window.size
  pub within : n + window.size < window.next + 2 ^ 32
  pub low : n % 2 ^ 32 ≡ low32

abbrev pub is_among : List ℕ → ℕ → Bool
is_among numbers n = list_any (λ m. m == n) numbers

-- whether a number was noted, as far as the window reaches
abbrev pub is_noted : Window → ℕ → Bool
is_noted window n = is_among window.noted n

-- whether a number is below the base or below the window
abbrev pub is_stale : Window → ℕ → Bool
is_stale window n = nat_lt n window.base || nat_lt (n + window.size) window.next

abbrev pub judged : Window → ℕ → Judgement
judged window n = if is_stale window n then Stale else (if is_noted window n then Seen else Fresh)

-- one above the greatest of these numbers, or the base where there is none
abbrev pub next_noted : ℕ → List ℕ → ℕ
next_noted base [] = base
next_noted base (n ∷ numbers) = max (next_noted base numbers) (n + 1)

-- the numbers below `next`, the greatest first and at most so many
abbrev pub numbers_below : ℕ → ℕ → List ℕ
numbers_below next zero = []
numbers_below zero (suc size) = []
numbers_below (suc n) (suc size) = n ∷ numbers_below n size

-- those of these numbers that are in a window of this size below `next`, the greatest first
abbrev pub in_window : ℕ → ℕ → List ℕ → List ℕ
in_window size next numbers = filter (is_among numbers) (numbers_below next size)

-- the window in which exactly these numbers were noted, in whatever order
abbrev pub window_of : ℕ → ℕ → List ℕ → Window
window_of size base numbers = let next = next_noted base numbers in record {
  size = size;
  base = base;
  next = next;
  noted = in_window size next numbers;
}

-- the window moved up to a number, where that is above it, and with this number added
abbrev pub with_noted : Window → ℕ → Window
with_noted window n = let next = max window.next (n + 1) in record {
  size = window.size;
  base = window.base;
  next = next;
  noted = in_window window.size next (n ∷ window.noted);
}
