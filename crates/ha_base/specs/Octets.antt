use Rattle.std.specs.Prelude.{ℕ, List}

-- octets, and how many more fit without memory
pub record WithRoom : Type 0 where
  pub octets : List ℕ
  pub spare : ℕ
