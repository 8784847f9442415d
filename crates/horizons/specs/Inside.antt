-- What the fields of a horizon keep.
use Rattle.std.specs.Prelude.{ℕ, ◌≡◌, ◌≤◌, max, Some}
use Rattle.keeper_book.specs.Counters.{counter_of_kind}
use Rattle.keeper_book.specs.declared.counters.Counter.{Counter}
use Rattle.spend_once.specs.Lot.{Remaining}

-- the lot has the counter's numbers up to the high, and nothing passes the counter's end
pub record IsWell (counter : Counter) (base high end : ℕ) (lot : Remaining) : Type 0 where
  pub named : counter_of_kind lot.name.kind ≡ Some counter
  pub from_base : base ≤ lot.next
  pub from_low : base ≤ high
  pub within : high ≤ end
  pub before_end : lot.next ≤ end
  pub up_to : lot.end ≡ max high lot.next
