use Rattle.std.specs.Prelude.{ℕ, List}

-- what a source in memory has left to give, how many octets at a time, and which calls fail
pub record SourceState : Type 0 where
  pub left : List ℕ
  pub piece : ℕ
  pub fails : List ℕ
  pub calls : ℕ
  pub faults : ℕ

-- what a sink in memory was given, how many octets it still has room for, and which calls fail
pub record SinkState : Type 0 where
  pub written : List ℕ
  pub room : ℕ
  pub piece : ℕ
  pub fails : List ℕ
  pub calls : ℕ
  pub faults : ℕ
