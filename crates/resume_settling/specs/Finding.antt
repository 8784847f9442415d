-- Which half-open association a message is for.
use Rattle.std.specs.Prelude.{◌≡◌, ℕ, ◌+◌, ◌&&◌, ◌==◌, Bool, true, false}
use Rattle.std.specs.Prelude.{List, drop, slice_get, Some}
use Rattle.std.specs.List.{list_any}
use Rattle.ike_values.specs.declared.header.Header.{Header}
use Rattle.resume_exchange.specs.HalfOpens.{is_live}
use Rattle.resume_exchange.specs.declared.half_opens.HalfOpen.{HalfOpen}

-- it is live, and the header has its SPIs
abbrev pub is_meant : ℕ → Header → HalfOpen → Bool
is_meant now header half_open = is_live now half_open
    && half_open.derivation.spii == header.spii && half_open.derivation.spir == header.spir

-- at this place stands one that is meant, and none that was begun later is
pub record IsLastMeant (now : ℕ) (header : Header) (half_opens : List HalfOpen) (place : ℕ) :
    Type 0 where
  pub half_open : HalfOpen
  pub here : slice_get half_opens place ≡ Some half_open
  pub meant : is_meant now header half_open ≡ true
  pub last : list_any (is_meant now header) (drop (place + 1) half_opens) ≡ false
