-- What a contract sees of a lot, and of a number that was drawn from one.
use Rattle.std.specs.Prelude.{ℕ}
use Rattle.ha_base.specs.declared.counter_names.CounterName.{CounterName}

-- the numbers that a lot can still give: those of this counter from `next` on, below `end`
pub record Remaining : Type 0 where
  pub name : CounterName
  pub next : ℕ
  pub end : ℕ

-- one number of a counter
pub record Drawn : Type 0 where
  pub name : CounterName
  pub value : ℕ
