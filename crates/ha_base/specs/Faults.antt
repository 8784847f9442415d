use Rattle.std.specs.Prelude.{ℕ, ◌+◌, ◌-◌, ◌^◌, ◌≤◌, min, List, take, Option}
use Rattle.std.specs.Io.KnownBytes.{Appends}

-- a count of faults that rises by one, as far as 64 bits can tell
abbrev pub one_more : ℕ → ℕ
one_more count = min (count + 1) (2 ^ 64 - 1)

-- there was one more fault at least, as far as can be counted
abbrev pub Rose : ℕ → ℕ → Type 0
Rose old new = one_more old ≤ new

-- some of the octets, from the front, were written
abbrev pub AppendsFront : Option (List ℕ) → Option (List ℕ) → List ℕ → Type 0
AppendsFront old new octets = (n : ℕ) × Appends old new (take n octets)
