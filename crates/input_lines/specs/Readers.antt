-- What a reader of lines holds, and what taking a line does.
use Rattle.std.specs.Prelude.{◌≡◌, ◌≢◌, ℕ, ◌+◌, ◌≤◌, ◌<◌, ◌⊎◌, List, [], ◌∷◌, length, Bool, true, false, Option}
use Rattle.std.specs.Io.KnownBytes.{IsAtEnd}
use Rattle.ha_base.specs.Faults.{Rose}
use Rattle.input_lines.specs.Taking.{BeginsUnfed, TakesFrom}
use Rattle.input_lines.specs.declared.reader.Took.{Took}
use Rattle.input_lines.specs.declared.reader.Took.TheVariants as took
use Rattle.input_lines.specs.declared.taking.Limits.{Limits}

-- a reader: its limits, the line that was taken last, or the front of one, the octets that were
-- read and are not taken, how many octets of the input were taken as lines, and whether the last of
-- them lacked its line feed
pub record Reading : Type 0 where
  pub limits : Limits
  pub line : List ℕ
  pub kept : List ℕ
  pub before : ℕ
  pub unfed : Bool

-- a line with its line feed was taken, and none before it lacked its own
pub record TakesLine (old new : Reading) (left still_left : Option (List ℕ)) : Type 0 where
  pub going : old.unfed ≡ false
  pub takes : TakesFrom old.limits old.before old.kept new.line (10 ∷ new.kept) left still_left
  pub before : new.before ≡ old.before + length new.line + 1
  pub within : new.before ≤ old.limits.file
  pub fed : new.unfed ≡ false

-- the last line was taken, which is not empty and lacks its line feed
pub record TakesLast (old new : Reading) (left still_left : Option (List ℕ)) : Type 0 where
  pub going : old.unfed ≡ false
  pub takes : TakesFrom old.limits old.before old.kept new.line [] left still_left
  pub end_reached : IsAtEnd still_left
  pub nothing : new.kept ≡ []
  pub some : 0 < length new.line
  pub before : new.before ≡ old.before + length new.line
  pub unfed : new.unfed ≡ true

-- only the front of a line was taken, and no octet is lost
pub record TakesFront (old new : Reading) (left still_left : Option (List ℕ)) : Type 0 where
  pub going : old.unfed ≡ false
  pub takes : TakesFrom old.limits old.before old.kept new.line new.kept left still_left
  pub before : new.before ≡ old.before

-- what the answers say of octets that were kept, and of those that are left
abbrev pub TakesAs : Reading → Reading → (left still_left : Option (List ℕ))
    → (faults now_faults : ℕ) → Took → Type 0
TakesAs old new left still_left faults now_faults took.Line =
    (TakesLine old new left still_left ⊎ TakesLast old new left still_left) × (now_faults ≡ faults)
TakesAs old new left still_left faults now_faults took.End =
    (new.kept ≡ []) × (new.before ≡ old.before) × (now_faults ≡ faults) × ((IsAtEnd still_left
    × TakesFrom old.limits old.before old.kept [] [] left still_left)
    ⊎ ((old.unfed ≡ true) × (still_left ≡ left)))
TakesAs old new left still_left faults now_faults took.LineTooLong =
    TakesFront old new left still_left × (length new.line ≡ old.limits.line)
    × BeginsUnfed new.kept × (now_faults ≡ faults)
TakesAs old new left still_left faults now_faults took.FileTooLong =
    TakesFront old new left still_left × (old.before + length new.line ≡ old.limits.file)
    × (new.kept ≢ []) × (BeginsUnfed new.kept → length new.line < old.limits.line)
    × (now_faults ≡ faults)
TakesAs old new left still_left faults now_faults took.Failed =
    TakesFront old new left still_left × (new.kept ≡ []) × Rose faults now_faults
