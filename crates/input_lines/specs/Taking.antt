-- How octets are taken up to a line feed, to the end of the input, or to a limit.
use Rattle.std.specs.Prelude.{◌≡◌, ◌≢◌, ℕ, ◌+◌, ◌≤◌, ◌<◌, ◌⊎◌, List, [], ◌∷◌, ◌++◌, length, true, Option}
use Rattle.std.specs.List.{list_all}
use Rattle.std.specs.Io.KnownBytes.{Consumes, IsAtEnd}
use Rattle.ha_base.specs.Faults.{Rose}
use Rattle.input_lines.specs.Lines.{no_feed}
use Rattle.input_lines.specs.declared.taking.Found.{Found}
use Rattle.input_lines.specs.declared.taking.Found.TheVariants as found
use Rattle.input_lines.specs.declared.taking.Limits.{Limits}

-- where octets are left, they begin with a line feed, or a limit is reached
abbrev pub EndsFront : Limits → (before size : ℕ) → List ℕ → Type 0
EndsFront limits before size [] = Unit {0}
EndsFront limits before size (c ∷ kept) =
    (c ≡ 10) ⊎ ((size ≡ limits.line) ⊎ (before + size ≡ limits.file))

-- A line, or the front of one, is taken of the octets that were kept and of those that were read,
-- and some stand behind it.
pub record TakesFrom (limits : Limits) (before : ℕ) (kept line behind : List ℕ)
    (left still_left : Option (List ℕ)) : Type 0 where
  pub read : List ℕ
  pub consumed : Consumes left still_left read
  pub parts : kept ++ read ≡ line ++ behind
  pub feedless : list_all no_feed line ≡ true
  pub short : length line ≤ limits.line
  pub within : before + length line ≤ limits.file

-- the octets begin with one that is no line feed
abbrev pub BeginsUnfed : List ℕ → Type 0
BeginsUnfed [] = ⊥
BeginsUnfed (c ∷ cs) = c ≢ 10

-- why no more octets are taken to a line of some size, and what is kept then
abbrev pub IsEnding : Limits → (before size : ℕ) → (kept now_kept : List ℕ) → Found → Type 0
IsEnding limits before size kept now_kept found.Feed =
    (kept ≡ 10 ∷ now_kept) × (before + size < limits.file)
IsEnding limits before size kept now_kept found.LineTooLong =
    (now_kept ≡ kept) × (size ≡ limits.line) × BeginsUnfed now_kept
IsEnding limits before size kept now_kept found.FileTooLong =
    (now_kept ≡ kept) × (before + size ≡ limits.file) × (now_kept ≢ [])
    × (BeginsUnfed now_kept → size < limits.line)
IsEnding limits before size kept now_kept other = ⊥

-- where a line ends, or the front of one, and what is kept then
abbrev pub Finds : Limits → ℕ → (kept line now_kept : List ℕ) → (left still_left : Option (List ℕ))
    → (faults now_faults : ℕ) → Found → Type 0
Finds limits before kept line now_kept left still_left faults now_faults found.Feed =
    TakesFrom limits before kept line (10 ∷ now_kept) left still_left
    × (before + length line < limits.file) × (now_faults ≡ faults)
Finds limits before kept line now_kept left still_left faults now_faults found.End =
    TakesFrom limits before kept line now_kept left still_left × (now_kept ≡ [])
    × IsAtEnd still_left
    × (now_faults ≡ faults)
Finds limits before kept line now_kept left still_left faults now_faults found.LineTooLong =
    TakesFrom limits before kept line now_kept left still_left × (length line ≡ limits.line)
    × BeginsUnfed now_kept × (now_faults ≡ faults)
Finds limits before kept line now_kept left still_left faults now_faults found.FileTooLong =
    TakesFrom limits before kept line now_kept left still_left
    × (before + length line ≡ limits.file)
    × (now_kept ≢ []) × (BeginsUnfed now_kept → length line < limits.line) × (now_faults ≡ faults)
Finds limits before kept line now_kept left still_left faults now_faults found.Failed =
    TakesFrom limits before kept line now_kept left still_left × (now_kept ≡ [])
    × Rose faults now_faults
