-- What receives at an SPI, by the place where it stands.
use Rattle.std.proofs.Common.{◌≡◌, ◌≢◌, ℕ, zero, suc, ◌<◌, ◌≤◌, ◌==◌, Bool, true, false, List, [], ◌∷◌, ◌++◌, length, Option, Some, None, get_or, refl, ap, sym, ◌∙◌, arith, subst, ⊎_elim, if◌then◌else◌}
use Rattle.std.proofs.lemmas.Bool.{eqb-true}
use Rattle.std.specs.Prelude.{MatchOption}
use Rattle.turn_rules.specs.Held.{Held, held_at}
use Rattle.turn_rules.specs.MemberPackets.{IsReceiver, ReceivesNowhere}
use Rattle.cluster_member.specs.Places.{AreApart, EachFrom, IsLeastAt, IsLesser, IsHoldingPlace, NoneReceives}
use Rattle.cluster_member.proofs.PlaceLemmas.{apart_first, found_at}

pub same_item : (place : ℕ) (hs : List Held) (a b : Held) → place < length hs → get_or hs place a ≡ get_or hs place b
same_item place [] a b w = absurd (omega arith)
same_item zero (x ∷ xs) a b w = refl
same_item (suc k) (x ∷ xs) a b w = same_item k xs a b (omega arith)

none_more : (spi : ℕ) (hs : List Held) (h : Held) → NoneReceives spi hs → h.sa.spi_in ≢ spi → NoneReceives spi (hs ++ h ∷ [])
none_more spi [] h n d = (d, tt)
none_more spi (x ∷ xs) h n d = (n.0, none_more spi xs h n.1 d)

each_more : (spi least : ℕ) (hs : List Held) (h : Held) → EachFrom spi least hs → (h.sa.spi_in ≡ spi → least ≤ h.sa.spir) → EachFrom spi least (hs ++ h ∷ [])
each_more spi least [] h e l = (l, tt)
each_more spi least (x ∷ xs) h e l = (e.0, each_more spi least xs h e.1 l)

each_none : (spi least : ℕ) (hs : List Held) → NoneReceives spi hs → EachFrom spi least hs
each_none spi least [] n = tt
each_none spi least (x ∷ xs) n = ((λ e. absurd (n.0 e)), each_none spi least xs n.1)

each_lower : (spi low least : ℕ) (hs : List Held) → low ≤ least → EachFrom spi least hs → EachFrom spi low hs
each_lower spi low least [] l e = tt
each_lower spi low least (x ∷ xs) l e = ((λ s. omega (arith, l, e.0 s)), each_lower spi low least xs l e.1)

-- what was found among those that were seen
abbrev pub IsFound : ℕ → List Held → List Held → Option ℕ → Type 0
IsFound spi items seen found = MatchOption found (NoneReceives spi seen) (λ place. IsLeastAt spi place seen items)

-- one more that receives elsewhere
pub found_else : (spi : ℕ) (items seen : List Held) (x : Held) (found : Option ℕ) → x.sa.spi_in ≢ spi → IsFound spi items seen found → IsFound spi items (seen ++ x ∷ []) found
found_else spi items seen x None d f = none_more spi seen x f d
found_else spi items seen x (Some p) d f = record {
  within = f.within;
  here = λ h e. let q = f.here h e in (q.0, each_more spi h.sa.spir seen x q.1 (λ s. absurd (d s)));
}

module _ (spi place : ℕ) (items seen : List Held) (x : Held) (w : place < length items) (at : x ≡ get_or items place x) (is : x.sa.spi_in ≡ spi) where
  at_place : EachFrom spi x.sa.spir seen → IsLeastAt spi place (seen ++ x ∷ []) items
  at_place each = record {
    within = w;
    here = λ h e.
        let same : h ≡ x = e ∙ same_item place items h x w ∙ sym at in
        (ap (λ (y : Held). y.sa.spi_in) same ∙ is, subst (λ (y : Held). EachFrom spi y.sa.spir (seen ++ x ∷ [])) (sym same) (each_more spi x.sa.spir seen x each (λ s. omega arith)));
  }

  -- one more that receives there
  pub found_then : (found : Option ℕ) (r : ℕ) → IsLesser items found place r → IsFound spi items seen found → IsLeastAt spi r (seen ++ x ∷ []) items
  found_then None r l f = subst (λ n. IsLeastAt spi n (seen ++ x ∷ []) items) (sym l) (at_place (each_none spi x.sa.spir seen f))
  found_then (Some p) r l f =
      let a = get_or items p x in
      let a_is : a ≡ get_or items p a = same_item p items x a f.within in
      let old = f.here a a_is in
      ⊎_elim
      (λ k. subst (λ n. IsLeastAt spi n (seen ++ x ∷ []) items) (sym k.0) (record {
        within = f.within;
        here = λ h e.
            let same : h ≡ a = e ∙ same_item p items h a f.within ∙ sym a_is in
            let mine = f.here h e in
            (mine.0, each_more spi h.sa.spir seen x mine.1 (λ s. subst (λ (y : Held). y.sa.spir ≤ x.sa.spir) (sym same) k.1));
      }))
      (λ k. subst (λ n. IsLeastAt spi n (seen ++ x ∷ []) items) (sym k.0) (at_place (each_lower spi x.sa.spir a.sa.spir seen (omega (arith, k.1)) old.1)))
      (l a x a_is at)

each_least : (spi least other : ℕ) (hs : List Held) (g : Held) → held_at hs other ≡ Some g → EachFrom spi least hs → g.sa.spi_in ≡ spi → least ≤ other
each_least spi least other [] g f each r = absurd (cc)
each_least spi least other (x ∷ xs) g f each r = by_test (each_least spi least other xs g) (x.sa.spir == other) refl f
  where
    by_test : (held_at xs other ≡ Some g → EachFrom spi least xs → g.sa.spi_in ≡ spi → least ≤ other) → (b : Bool) → (x.sa.spir == other) ≡ b → (if b then Some x else held_at xs other) ≡ Some g → least ≤ other
    by_test later true t f = let same : x ≡ g = cc in subst (λ n. least ≤ n) (eqb-true _ _ t) (each.0 (ap (λ (y : Held). y.sa.spi_in) same ∙ r))
    by_test later false t f = later f each.1 r

-- where nothing receives at the SPI, nothing that is held does
pub nowhere : (spi : ℕ) (hs : List Held) → NoneReceives spi hs → ReceivesNowhere (held_at hs) spi
nowhere spi [] n spir h f = absurd (cc)
nowhere spi (x ∷ xs) n spir h f = by_test (nowhere spi xs n.1 spir h) (x.sa.spir == spir) refl f
  where
    by_test : (held_at xs spir ≡ Some h → h.sa.spi_in ≢ spi) → (b : Bool) → (x.sa.spir == spir) ≡ b → (if b then Some x else held_at xs spir) ≡ Some h → h.sa.spi_in ≢ spi
    by_test later true t f = let same : x ≡ h = cc in λ e. n.0 (ap (λ (y : Held). y.sa.spi_in) same ∙ e)
    by_test later false t f = later f

-- what stands somewhere is the first of its association
pub place_is : (place : ℕ) (hs : List Held) (h : Held) → AreApart hs → place < length hs → h ≡ get_or hs place h → IsHoldingPlace h.sa.spir place hs
place_is place hs h apart w e = record {
  within = w;
  none_before = apart_first place hs h apart w e;
  here = λ g at. ap (λ (y : Held). y.sa.spir) (at ∙ same_item place hs g h w ∙ sym e);
}

-- what stands at the place that was found is the receiver
pub receiver_at : (spi place : ℕ) (hs : List Held) (h : Held) → AreApart hs → IsLeastAt spi place hs hs → h ≡ get_or hs place h → IsReceiver (held_at hs) spi h.sa.spir h
receiver_at spi place hs h apart at e =
    let mine = at.here h e in
    record {
      is_held = found_at h.sa.spir place hs h (place_is place hs h apart at.within e) e;
      receives = mine.0;
      least = λ other g f r. each_least spi h.sa.spir other hs g f mine.1 r;
    }
