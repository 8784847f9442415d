-- Who holds which numbers of one counter, and what one move makes of it.
use Rattle.std.specs.Prelude.{ℕ, ◌+◌, ◌-◌, ◌<◌, ◌≤◌, ◌≡◌, ◌≢◌, ◌==◌, max, Bool, true, false, Option, Some, None, List, [], ◌∷◌, ◌++◌, length, map, if◌then◌else◌}
use Rattle.std.specs.List.{AllByRecursion}
use Rattle.std.specs.Option.{option_map}
use Rattle.turn_laws.specs.Columns.{Column, IsRising, column_mark}
use Rattle.turn_rules.specs.Ends.{Performer, is_performer}
use Rattle.turn_rules.specs.Safe.{IsEachOnce}

-- Who makes a move, or holds numbers: the run itself, one of its ends, or what is half open: a
-- resumption under this responder's SPI, which holds the first numbers of what it will be until a
-- member has settled it.
pub data Actor : Type 0 where
  Run : Actor
  End : (end : Performer) → Actor
  Half : (spir : ℕ) → Actor

abbrev pub is_actor : Actor → Actor → Bool
is_actor Run Run = true
is_actor (End a) (End b) = is_performer a b
is_actor (Half a) (Half b) = a == b
is_actor w v = false

-- The numbers that an end may use: those of an epoch from its base on, below the high that was
-- acknowledged, but for those that it used. No number reaches the end. Where they are used in order
-- it goes on with the next one: that is above each that was used, and none to which the end jumped
-- is above it.
pub record Holding : Type 0 where
  pub epoch : ℕ
  pub base : ℕ
  pub next : ℕ
  pub high : ℕ
  pub end : ℕ
  pub numbers : List ℕ

abbrev pub IsNotIn : ℕ → List ℕ → Type 0
IsNotIn n numbers = AllByRecursion (λ k. k ≢ n) numbers

pub record MayUse (h : Holding) (n : ℕ) : Type 0 where
  pub from_base : h.base ≤ n
  pub below_high : n < h.high
  pub unused : IsNotIn n h.numbers

-- a number that was used, in which epoch, and the end of its counter, as the record of what was
-- held gave it
pub record Use : Type 0 where
  pub epoch : ℕ
  pub number : ℕ
  pub end : ℕ

-- what a move does to the numbers of one counter
pub data Effect : Type 0 where
  Nothing : Effect
  -- a holding begins, in place of any earlier one of the same end
  Begins : Actor → Holding → Effect
  -- the high of a holding rises
  Rises : Actor → ℕ → Effect
  -- a number is used
  Draws : Actor → ℕ → Effect
  -- the next number of a holding rises, and nothing is used
  Jumps : Actor → ℕ → Effect
  -- what one holds passes to another one, in place of what that one held
  Passes : Actor → Actor → Effect

abbrev pub raised_to : ℕ → Holding → Holding
raised_to upto h = record h { high = max upto h.high }

abbrev pub drawn : ℕ → Holding → Holding
drawn n h = record h { next = max (n + 1) h.next; numbers = n ∷ h.numbers }

abbrev pub jumped_to : ℕ → Holding → Holding
jumped_to n h = record h { next = max n h.next }

abbrev pub holding_after : Effect → (Actor → Option Holding) → Actor → Option Holding
holding_after Nothing held v = held v
holding_after (Begins w h) held v = if is_actor w v then Some h else held v
holding_after (Rises w upto) held v = if is_actor w v then option_map (raised_to upto) (held v)
    else held v
holding_after (Draws w n) held v = if is_actor w v then option_map (drawn n) (held v) else held v
holding_after (Jumps w n) held v = if is_actor w v then option_map (jumped_to n) (held v)
    else held v
holding_after (Passes w u) held v = if is_actor u v then held w
    else (if is_actor w v then None else held v)

-- 0 is no epoch: nothing is held
abbrev pub epoch_of : Option Holding → ℕ
epoch_of None = 0
epoch_of (Some h) = h.epoch

-- and no number lies below 0
abbrev pub use_end : Option Holding → ℕ
use_end None = 0
use_end (Some h) = h.end

-- the numbers that were used, the newest first
abbrev pub uses_after : Effect → (Actor → Option Holding) → List Use → List Use
uses_after (Draws w n) held uses = record {
  epoch = epoch_of (held w);
  number = n;
  end = use_end (held w);
} ∷ uses
uses_after effect held uses = uses

-- an epoch that began, its base, no number of the next one, and the end of the counter; the next
-- number is not below the base, and above each that was used
pub record IsHoldingOf (column : Column) (h : Holding) : Type 0 where
  pub some : 1 ≤ h.epoch
  pub begun : h.epoch ≤ length column.bases
  pub base : column_mark column (h.epoch - 1) ≡ h.base
  pub high : h.high ≤ column_mark column h.epoch
  pub end : h.end ≡ column.end
  pub from_base : h.base ≤ h.next
  pub above_used : AllByRecursion (λ n. n < h.next) h.numbers

-- one epoch more, that of a holding which begins at the end of the column
abbrev pub column_begun : Holding → Column → Column
column_begun h column = record {
  bases = column.bases ++ h.base ∷ [];
  high = h.high;
  end = h.end;
}

-- a number of an epoch that began
pub record IsUseOf (column : Column) (u : Use) : Type 0 where
  pub some : 1 ≤ u.epoch
  pub begun : u.epoch ≤ length column.bases
  pub from_base : column_mark column (u.epoch - 1) ≤ u.number
  pub below : u.number < column_mark column u.epoch
  pub end : u.end ≡ column.end

-- a holding of the epoch that begins as the column goes on: nobody holds it yet, and no number of
-- it was used
pub record IsNew (old new : Column) (h : Holding) : Type 0 where
  pub next_epoch : h.epoch ≡ length old.bases + 1
  pub of_column : IsHoldingOf new h
  pub unused : h.numbers ≡ []

-- The numbers of one counter belong to one end each: what each end holds of it, and the numbers
-- that were used.
pub record IsOwned (held : Actor
    → Option Holding) (uses : List Use) (column : Column) : Type 0 where
  -- the bases do not fall, and the last is at most the high
  pub rising : IsRising column
  -- each holding is of an epoch that began, has its base, and ends where the next epoch begins
  pub holdings : (w : Actor) (h : Holding) → held w ≡ Some h → IsHoldingOf column h
  -- each epoch has at most one holding
  pub alone : (w v : Actor) (h g : Holding) → held w ≡ Some h → held v ≡ Some g → h.epoch ≡ g.epoch
      → w ≡ v
  -- each number was used within its epoch
  pub within : AllByRecursion (IsUseOf column) uses
  -- what is not among a holder's own numbers was not used in its epoch
  pub known : (w : Actor) (h : Holding) → held w ≡ Some h → (n : ℕ) → IsNotIn n h.numbers
      → AllByRecursion (λ u. u.epoch ≡ h.epoch → u.number ≢ n) uses
  -- no number was used twice
  pub once : IsEachOnce (map (λ u. u.number) uses)
