-- What a member holds of all its associations where one of them is held otherwise at its place.
use Rattle.std.proofs.Common.{◌≡◌, ℕ, List, Some, get_or, ap, sym, ◌∙◌, subst}
use Rattle.std.proofs.Math.ListN.{set}
use Rattle.events.specs.declared.turn.Step.{Step}
use Rattle.keeper_book.specs.declared.calls.Call.{Call}
use Rattle.keeper_book.specs.declared.records.Record.{Record}
use Rattle.turn_rules.specs.Held.{Held, held_at}
use Rattle.turn_rules.specs.Tasks.{Task}
use Rattle.cluster_member.proofs.PlaceLemmas.{apart_set, found_at, others_at, put_at}
use Rattle.cluster_member.proofs.Placed.{placed}
use Rattle.cluster_member.specs.Advances.{Advances}
use Rattle.cluster_member.specs.Members.{HoldsOn}
use Rattle.cluster_member.specs.Places.{AreApart, IsHoldingPlace}

module _ (spir place : ℕ) (items : List Held) (held new : Held) (at : IsHoldingPlace spir place items) (here : held ≡ get_or items place held)
    (sa : new.sa ≡ held.sa) where
  is : held.sa.spir ≡ spir
  is = at.here held here

  same : new.sa.spir ≡ spir
  same = ap (λ (r : Record). r.spir) sa ∙ is

  pub stays-apart : AreApart items → AreApart (set items place new)
  stays-apart = apart_set spir new same place items at.within at.none_before at.here

  module _ (old : List Held) (viewed : items ≡ old) where
    pub found-here : held_at old spir ≡ Some held
    found-here = ap (λ hs. held_at hs spir) (sym viewed) ∙ found_at spir place items held at here

    -- one association is held as the task makes it, and the others as before
    pub holds-here : (asked : ℕ → Task) (calls : List Call) (step : Step) → Advances held (asked held.sa.spir) calls step new → HoldsOn (asked spir) calls step old (set items place new)
    holds-here asked calls step advances size = placed size (asked spir) calls step spir held new old (set items place new) is found-here
        (put_at spir place items new same at)
        (λ other differs. others_at spir place other items new same differs at ∙ ap (λ hs. held_at hs other) viewed)
        (subst (λ k. Advances held (asked k) calls step new) is advances)
