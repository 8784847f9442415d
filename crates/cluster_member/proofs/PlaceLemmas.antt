-- What is held of an association, by the place where it stands.
use Rattle.std.proofs.Common.{◌≡◌, ◌≢◌, ℕ, zero, suc, ◌<◌, ◌==◌, true, false, List, [], ◌∷◌, ◌++◌, length, take, Some, None, get_or, refl, ap, sym, ◌∙◌, arith, subst, if◌then◌else◌}
use Rattle.std.proofs.Math.ListN.{set}
use Rattle.std.proofs.lemmas.Bool.{eq-eqb, ne_eqb}
use Rattle.turn_rules.specs.Held.{Held, held_at}
use Rattle.cluster_member.specs.Places.{AreApart, IsHoldingPlace}

pub held_at-here : (spir : ℕ) (h : Held) (hs : List Held) → h.sa.spir ≡ spir → held_at (h ∷ hs) spir ≡ Some h
held_at-here spir h hs e = let t : (h.sa.spir == spir) ≡ true = eq-eqb _ _ e in rw t

pub held_at-there : (spir : ℕ) (h : Held) (hs : List Held) → h.sa.spir ≢ spir → held_at (h ∷ hs) spir ≡ held_at hs spir
held_at-there spir h hs e = let t : (h.sa.spir == spir) ≡ false = ne_eqb _ _ e in rw t

not_here : (spir : ℕ) (h : Held) (hs : List Held) → held_at (h ∷ hs) spir ≡ None → h.sa.spir ≢ spir
not_here spir h hs n = λ e. let found : held_at (h ∷ hs) spir ≡ Some h = held_at-here spir h hs e in absurd (cc)

-- where nothing is held of the association, one more of another one changes nothing
pub none_more : (spir : ℕ) (hs : List Held) (h : Held) → held_at hs spir ≡ None → h.sa.spir ≢ spir → held_at (hs ++ h ∷ []) spir ≡ None
none_more spir [] h n d = held_at-there spir h [] d
none_more spir (x ∷ xs) h n d =
    let other = not_here spir x xs n in
    held_at-there spir x (xs ++ h ∷ []) other ∙ none_more spir xs h (sym (held_at-there spir x xs other) ∙ n) d

-- and one more of this one is what is held then
pub one_more : (spir : ℕ) (hs : List Held) (h : Held) → held_at hs spir ≡ None → h.sa.spir ≡ spir → held_at (hs ++ h ∷ []) spir ≡ Some h
one_more spir [] h n d = held_at-here spir h [] d
one_more spir (x ∷ xs) h n d =
    let other = not_here spir x xs n in
    held_at-there spir x (xs ++ h ∷ []) other ∙ one_more spir xs h (sym (held_at-there spir x xs other) ∙ n) d

pub others_more : (hs : List Held) (h : Held) (other : ℕ) → other ≢ h.sa.spir → held_at (hs ++ h ∷ []) other ≡ held_at hs other
others_more [] h other d = held_at-there other h [] (λ e. d (sym e))
others_more (x ∷ xs) h other d = ap (λ rest. if x.sa.spir == other then Some x else rest) (others_more xs h other d)

module _ (spir : ℕ) (new : Held) (is : new.sa.spir ≡ spir) where
  put_within : (place : ℕ) (hs : List Held) → place < length hs → held_at (take place hs) spir ≡ None → ((h : Held) → h ≡ get_or hs place h → h.sa.spir ≡ spir) → held_at (set hs place new) spir ≡ Some new
  put_within place [] w n here = absurd (omega arith)
  put_within zero (x ∷ xs) w n here = held_at-here spir new xs is
  put_within (suc k) (x ∷ xs) w n here =
      let other = not_here spir x (take k xs) n in
      held_at-there spir x (set xs k new) other ∙ put_within k xs (omega arith) (sym (held_at-there spir x (take k xs) other) ∙ n) here

  others_within : (other place : ℕ) (hs : List Held) → other ≢ spir → place < length hs → held_at (take place hs) spir ≡ None → ((h : Held) → h ≡ get_or hs place h → h.sa.spir ≡ spir) → held_at (set hs place new) other ≡ held_at hs other
  others_within other place [] d w n here = absurd (omega arith)
  others_within other zero (x ∷ xs) d w n here =
      held_at-there other new xs (λ e. d (sym e ∙ is)) ∙ sym (held_at-there other x xs (λ e. d (sym e ∙ here x refl)))
  others_within other (suc k) (x ∷ xs) d w n here =
      let apart = not_here spir x (take k xs) n in
      ap (λ rest. if x.sa.spir == other then Some x else rest) (others_within other k xs d (omega arith) (sym (held_at-there spir x (take k xs) apart) ∙ n) here)

found_within : (spir place : ℕ) (hs : List Held) (h : Held) → place < length hs → held_at (take place hs) spir ≡ None → h.sa.spir ≡ spir → h ≡ get_or hs place h → held_at hs spir ≡ Some h
found_within spir place [] h w n is at = absurd (omega arith)
found_within spir zero (x ∷ xs) h w n is at = held_at-here spir x xs (ap (λ (y : Held). y.sa.spir) (sym at) ∙ is) ∙ ap Some (sym at)
found_within spir (suc k) (x ∷ xs) h w n is at =
    let other = not_here spir x (take k xs) n in
    held_at-there spir x xs other ∙ found_within spir k xs h (omega arith) (sym (held_at-there spir x (take k xs) other) ∙ n) is at

-- what is put at the place is held then
pub put_at : (spir place : ℕ) (hs : List Held) (new : Held) → new.sa.spir ≡ spir → IsHoldingPlace spir place hs → held_at (set hs place new) spir ≡ Some new
put_at spir place hs new is at = put_within spir new is place hs at.within at.none_before at.here

-- and what is held of other associations stays
pub others_at : (spir place other : ℕ) (hs : List Held) (new : Held) → new.sa.spir ≡ spir → other ≢ spir → IsHoldingPlace spir place hs → held_at (set hs place new) other ≡ held_at hs other
others_at spir place other hs new is d at = others_within spir new is other place hs d at.within at.none_before at.here

pub found_at : (spir place : ℕ) (hs : List Held) (h : Held) → IsHoldingPlace spir place hs → h ≡ get_or hs place h → held_at hs spir ≡ Some h
found_at spir place hs h at is = found_within spir place hs h at.within at.none_before (at.here h is) is

-- another holding of the same association, in its place
pub apart_set : (spir : ℕ) (new : Held) (is : new.sa.spir ≡ spir) (place : ℕ) (hs : List Held) → place < length hs → held_at (take place hs) spir ≡ None → ((h : Held) → h ≡ get_or hs place h → h.sa.spir ≡ spir) → AreApart hs → AreApart (set hs place new)
apart_set spir new is place [] w n here a = absurd (omega arith)
apart_set spir new is zero (x ∷ xs) w n here a = (subst (λ s. held_at xs s ≡ None) (here x refl ∙ sym is) a.0, a.1)
apart_set spir new is (suc k) (x ∷ xs) w n here a =
    let other = not_here spir x (take k xs) n in
    let before = sym (held_at-there spir x (take k xs) other) ∙ n in
    (others_within spir new is x.sa.spir k xs other (omega arith) before here ∙ a.0, apart_set spir new is k xs (omega arith) before here a.1)

-- one more, of another association
pub apart_more : (hs : List Held) (h : Held) → AreApart hs → held_at hs h.sa.spir ≡ None → AreApart (hs ++ h ∷ [])
apart_more [] h a n = (refl, tt)
apart_more (x ∷ xs) h a n =
    let other = not_here h.sa.spir x xs n in
    (others_more xs h x.sa.spir other ∙ a.0, apart_more xs h a.1 (sym (held_at-there h.sa.spir x xs other) ∙ n))

-- what is not held stands nowhere
none_at : (s place : ℕ) (hs : List Held) (h : Held) → held_at hs s ≡ None → place < length hs → h ≡ get_or hs place h → h.sa.spir ≢ s
none_at s place [] h n w at = absurd (omega arith)
none_at s zero (x ∷ xs) h n w at = λ e. not_here s x xs n (ap (λ (y : Held). y.sa.spir) (sym at) ∙ e)
none_at s (suc k) (x ∷ xs) h n w at = none_at s k xs h (sym (held_at-there s x xs (not_here s x xs n)) ∙ n) (omega arith) at

-- what stands somewhere is not held before
pub apart_first : (place : ℕ) (hs : List Held) (h : Held) → AreApart hs → place < length hs → h ≡ get_or hs place h → held_at (take place hs) h.sa.spir ≡ None
apart_first place [] h a w at = absurd (omega arith)
apart_first zero (x ∷ xs) h a w at = refl
apart_first (suc k) (x ∷ xs) h a w at =
    held_at-there h.sa.spir x (take k xs) (λ e. none_at x.sa.spir k xs h a.0 (omega arith) at (sym e))
    ∙ apart_first k xs h a.1 (omega arith) at
