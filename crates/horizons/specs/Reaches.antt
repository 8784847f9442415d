-- How far a counter of an association reaches in an epoch.
use Rattle.std.specs.Prelude.{ℕ, ◌+◌, ◌≤◌, ◌≡◌, min, Some}
use Rattle.ha_base.specs.declared.counter_names.CounterName.{CounterName}
use Rattle.keeper_book.specs.Counters.{counter_of_kind}
use Rattle.keeper_book.specs.declared.counters.Counter.{Counter}
use Rattle.keeper_book.specs.declared.counters.Counter.TheVariants as counter

-- The epoch of a counter: where it began, the number that is used next, and the high below which
-- the keeper acknowledged all numbers. No number reaches the end.
pub record Reach : Type 0 where
  pub name : CounterName
  pub counter : Counter
  pub spir : ℕ
  pub epoch : ℕ
  pub base : ℕ
  pub next : ℕ
  pub high : ℕ
  pub end : ℕ

-- how many numbers a cover asks for at once
abbrev pub lead_of : Counter → ℕ
lead_of counter.EspOut = 1024
lead_of counter.EspIn = 1024
lead_of counter.Iv = 64
lead_of counter.Ask = 16
lead_of counter.Answer = 16

-- up to where a cover goes that a number asks for
abbrev pub cover_of : Reach → ℕ → ℕ
cover_of h at = min (at + lead_of h.counter) h.end

-- the name is the counter's, nothing lies below the base, and nothing passes the counter's end
pub record IsInRange (h : Reach) : Type 0 where
  pub named : counter_of_kind h.name.kind ≡ Some h.counter
  pub from_base : h.base ≤ h.next
  pub from_low : h.base ≤ h.high
  pub within : h.high ≤ h.end
  pub before_end : h.next ≤ h.end

-- the same counter in the same epoch
pub record IsSameCounter (old new : Reach) : Type 0 where
  pub name : new.name ≡ old.name
  pub counter : new.counter ≡ old.counter
  pub spir : new.spir ≡ old.spir
  pub epoch : new.epoch ≡ old.epoch
  pub base : new.base ≡ old.base
  pub end : new.end ≡ old.end
