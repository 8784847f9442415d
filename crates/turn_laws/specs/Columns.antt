-- The numbers of one counter, epoch by epoch.
use Rattle.std.specs.Prelude.{ℕ, ◌<◌, ◌≤◌, ◌≡◌, List, [], length, slice_index_or}

-- where each epoch began, up to where the last one goes, and the end that no number reaches
pub record Column : Type 0 where
  pub bases : List ℕ
  pub high : ℕ
  pub end : ℕ

-- no epoch, and no number
abbrev pub nothing : Column
nothing = record { bases = []; high = 0; end = 0 }

-- where an epoch begins, counted from 0: its base, or the high where it did not begin yet. It is
-- where the one before ends.
abbrev pub column_mark : Column → ℕ → ℕ
column_mark column i = slice_index_or column.bases i column.high

-- the bases do not fall, and the last is at most the high
abbrev pub IsRising : Column → Type 0
IsRising column = (i j : ℕ) → i ≤ j → column_mark column i ≤ column_mark column j

-- each epoch that began keeps the numbers that it has, and the bases still do not fall
pub record ColumnGoesOn (old new : Column) : Type 0 where
  pub no_shorter : length old.bases ≤ length new.bases
  pub same_bases : (i : ℕ) → i < length old.bases → column_mark new i ≡ column_mark old i
  pub no_lower : old.high ≤ column_mark new (length old.bases)
  pub rising : IsRising new
  pub same_end : 0 < length old.bases → new.end ≡ old.end
