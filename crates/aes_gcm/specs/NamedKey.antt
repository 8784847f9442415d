-- What a contract sees of a key.
use Rattle.std.specs.Prelude.{ℕ, List}
use Rattle.ha_base.specs.declared.counter_names.CounterName.{CounterName}

-- the counter whose numbers are the key's IVs, and the key's octets, of which the last four are the
-- salt
pub record NamedKey : Type 0 where
  pub name : CounterName
  pub octets : List ℕ
