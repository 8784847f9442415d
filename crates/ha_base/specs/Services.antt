use Rattle.std.specs.Prelude.{ℕ, List}

-- what may be the reply to a request that is executed as the n-th
abbrev pub ReplyRelation : Type 1
ReplyRelation = ℕ → List ℕ → List ℕ → Type 0
