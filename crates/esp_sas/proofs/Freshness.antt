-- A number that a window finds fresh lies at or above its base.
use Rattle.std.proofs.Common.{◌≡◌, ℕ, ◌≤◌, Bool, true, false, refl}
use Rattle.std.proofs.lemmas.Bool.{ltb-false}
use Rattle.std.specs.Prelude.{nat_lt}
use Rattle.replay_set.specs.Window.{Window, judged}
use Rattle.replay_set.specs.declared.judgement.Judgement.TheVariants.{Stale, Fresh}

pub fresh_from_base : (window : Window) (n : ℕ) → judged window n ≡ Fresh → window.base ≤ n
fresh_from_base window n fresh = go (nat_lt n window.base) refl
  where
    go : (b : Bool) → nat_lt n window.base ≡ b → window.base ≤ n
    go false t = ltb-false n window.base t
    go true t = let stale : judged window n ≡ Stale = rw t in absurd (cc)
