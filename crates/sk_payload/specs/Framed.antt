use Rattle.std.specs.Prelude.{ℕ, List}
use Rattle.ike_values.specs.Values.{PayloadValue}

-- the inner payloads of a message in the making, and how many more octets of them there is room for
pub record Framed : Type 0 where
  pub payloads : List PayloadValue
  pub room : ℕ
