use Rattle.std.specs.Prelude.{◌≡◌, ℕ, ◌-◌, ◌≤◌, List, ◌++◌, length, take, replicate}

-- the octets, and zeros behind them up to n
abbrev pub padded_to : ℕ → List ℕ → List ℕ
padded_to n octets = octets ++ replicate (n - length octets) 0

-- the first len of n octets are kept, and the others are zeros
pub record IsPadded (n : ℕ) (kept : List ℕ) (len : ℕ) : Type 0 where
  pub within : len ≤ n
  pub front : length (take len kept) ≡ len
  pub zeros : padded_to n (take len kept) ≡ kept
