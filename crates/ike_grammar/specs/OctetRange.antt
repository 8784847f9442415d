use Rattle.std.specs.Prelude.{ℕ, ◌<◌, List, slice_index}

-- each is an octet
abbrev pub IsOctets : List ℕ → Type 0
IsOctets bytes = (i : ℕ) → slice_index bytes i < 256
