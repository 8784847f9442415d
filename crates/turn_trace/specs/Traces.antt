-- The turns of a run, and where those stand that gave a datagram.
use Rattle.std.specs.Prelude.{ℕ, ◌-◌, Bool, List, [], ◌∷◌, ◌++◌, length, reverse, ◌≡◌, nat_lt, if◌then◌else◌, IfNone, slice_get, Option, Some, None, option_to_list}
use Rattle.std.specs.Option.{option_map}
use Rattle.events.specs.declared.event.Which.{Which}
use Rattle.events.specs.declared.event.Which.TheVariants as which
use Rattle.events.specs.declared.seals.Seal.{Seal}
use Rattle.events.specs.declared.turn.Turn.{Turn}
use Rattle.keeper_book.specs.declared.calls.Call.{Call}

pub record Traced : Type 0 where
  -- the newest first
  pub past : List Turn
  -- whether there is room for one more turn
  pub ready : Bool

-- the earlier turns, the oldest first, and the newest
abbrev pub past_of : List Turn → Option Turn → List Turn
past_of earlier newest = option_to_list newest ++ reverse earlier

abbrev pub calls_in : Option Turn → List Call
calls_in None = []
calls_in (Some turn) = turn.calls

abbrev pub seals_of : Option Turn → List Seal
seals_of None = []
seals_of (Some turn) = turn.step.seals

-- where the turns stand that gave a datagram, counted from 0, the oldest first
abbrev pub giving_places : List Turn → List ℕ
giving_places [] = []
giving_places (turn ∷ past) = giving_places past ++ option_to_list
    (option_map (λ _. length past) turn.step.gives)

-- where the turn stands that gave the datagram that is meant
abbrev pub place_meant : Which → List ℕ → Option ℕ
place_meant (which.Number number) places = if nat_lt 0 number then slice_get places (number - 1)
    else None
place_meant which.Last places = slice_get places (length places - 1)

-- the places are those of the turns that gave a datagram, the rooms are empty, and only a newest
-- turn has earlier ones
pub record AreTraced (given : List ℕ) (calls_room : List Call) (seals_room : List Seal)
    (earlier : List Turn) (newest : Option Turn) : Type 0 where
  pub places : given ≡ giving_places (past_of earlier newest)
  pub no_calls : calls_room ≡ []
  pub no_seals : seals_room ≡ []
  pub begun : IfNone newest (earlier ≡ [])
