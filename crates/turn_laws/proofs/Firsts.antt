-- Where no epoch began, a first one does.
use Rattle.std.proofs.Common.{◌≡◌, ◌-◌, ◌<◌, ◌≤◌, Option, Some, None, [], refl, ap, sym, subst, arith}
use Rattle.std.specs.List.{AllByRecursion}
use Rattle.turn_laws.proofs.Columns.{goes_on-first, goes_on-refl, mark-high, rising-one}
use Rattle.turn_laws.specs.Acts.{effect_begun, with_begun}
use Rattle.turn_laws.specs.Columns.{Column, IsRising, column_mark, nothing}
use Rattle.turn_laws.specs.Holdings.{Actor, Begins, Holding, column_begun}
use Rattle.turn_laws.proofs.Holdings.{Keeps}

-- a holding of a first epoch
pub record IsFirstHolding (h : Holding) : Type 0 where
  pub epoch : h.epoch ≡ 1
  pub rising : h.base ≤ h.high
  pub from_base : h.base ≤ h.next
  pub unused : h.numbers ≡ []

-- where no epoch began, the first one begins
pub keeps-first : (held : Actor → Option Holding) (w : Actor) (h : Holding) → IsFirstHolding h → Keeps (Begins w h) held nothing (column_begun h nothing)
keeps-first held w h first = (
  goes_on-first (column_begun h nothing) (rising-one h.base h.high h.end first.rising),
  record {
    next_epoch = first.epoch;
    of_column = record {
      some = let e : h.epoch ≡ 1 = first.epoch in omega arith;
      begun = let e : h.epoch ≡ 1 = first.epoch in omega arith;
      base = ap (λ n. column_mark (column_begun h nothing) (n - 1)) first.epoch;
      high = let e : column_mark (column_begun h nothing) h.epoch ≡ h.high = mark-high (column_begun h nothing) h.epoch (let e : h.epoch ≡ 1 = first.epoch in omega arith) in omega arith;
      end = refl;
      from_base = first.from_base;
      above_used = subst (λ ns. AllByRecursion (λ n. n < h.next) ns) (sym first.unused) tt;
    };
    unused = first.unused;
  },
)

-- Where something begins, no epoch began.
pub keeps-begun : (held : Actor → Option Holding) (w : Actor) (x : Option Holding) (begun : Column) → IsRising begun → ((h : Holding) → x ≡ Some h → (begun ≡ nothing) × IsFirstHolding h) → Keeps (effect_begun w x) held begun (with_begun x begun)
keeps-begun held w None begun rising first = goes_on-refl begun rising
keeps-begun held w (Some h) begun rising first = subst (λ column. Keeps (Begins w h) held column (column_begun h column)) (sym (first h refl).0) (keeps-first held w h (first h refl).1)
