-- What follows from an answer of a reader that tests, and of one that reads first.
use Rattle.std.proofs.Common.{◌≡◌, ℕ, zero, suc, ◌<◌, ◌⊎◌, Bool, true, false, cond, eqb, eq-eqb, length, sym, ◌∙◌, arith, List, [], ◌∷◌, Result, Ok, Err, refl, inl, inr}
use Rattle.std.proofs.lemmas.Bool.{eqb-true}
use Rattle.std.proofs.lemmas.Bool.Decides.{nat_tests}
use Rattle.std.specs.Prelude.{◌&&◌}
use Rattle.ike_values.specs.declared.fault.Bad.{Bad}
use Rattle.ike_grammar.specs.Faults.{◌>>=◌, unless, Passes}

-- the value of a step that did not fail
pub bind_ok : {A B : Type 0} (r : Result A Bad) (f : A → Result B Bad) (y : B) → (r >>= f) ≡ Ok y → (x : A) × (r ≡ Ok x) × (f x ≡ Ok y)
bind_ok (Ok x) f y e = (x, refl, e)
bind_ok (Err d) f y e = absurd cc

-- the rest need only be the same behind what was read
pub bind_same : {A B : Type 0} (r : Result A Bad) (f g : A → Result B Bad) → ((x : A) → r ≡ Ok x → f x ≡ g x) → (r >>= f) ≡ (r >>= g)
bind_same (Ok x) f g same = same x refl
bind_same (Err d) f g same = refl

abbrev pub done : {A : Type 0} → A → Result A Bad
done x = Ok x

pub ok_is : {A : Type 0} (x y : A) → done x ≡ done y → x ≡ y
ok_is x y e = cc

pub unless_ok : {A : Type 0} (ts : List (Bool × Bad)) (read : Result A Bad) (x : A) → unless ts read ≡ Ok x → Passes ts × (read ≡ Ok x)
unless_ok [] read x e = (tt, e)
unless_ok ((true, b) ∷ ts) read x e = absurd cc
unless_ok ((false, b) ∷ ts) read x e = let more = unless_ok ts read x e in ((refl, more.0), more.1)

pub unless_passes : {A : Type 0} (ts : List (Bool × Bad)) (read : Result A Bad) → Passes ts → unless ts read ≡ read
unless_passes [] read p = refl
unless_passes ((true, b) ∷ ts) read p = absurd cc
unless_passes ((false, b) ∷ ts) read p = unless_passes ts read p.1

pub chosen : {A : Type 0} (b : Bool) (x y z : A) → cond b x y ≡ z → ((b ≡ true) × (x ≡ z)) ⊎ ((b ≡ false) × (y ≡ z))
chosen true x y z e = inl (refl, e)
chosen false x y z e = inr (refl, e)

-- a result is no value and a fault at once
pub differ : {A : Type 0} (x : A) (b : Bad) (r : Result A Bad) → r ≡ Ok x → r ≡ Err b → ⊥
differ x b r e f = absurd cc

-- ---- tests

pub and_false : (a b : Bool) → a ≡ true → (a && b) ≡ false → b ≡ false
and_false true b t e = e
and_false false b t e = absurd cc

-- what a test of emptiness tells
pub some_left : (left : List ℕ) (b : Bool) → b ≡ eqb (length left) 0 → b ≡ false → 0 < length left
some_left left b e f = grind (arith, nat_tests, e, f)

pub none_left : (left : List ℕ) (b : Bool) → b ≡ eqb (length left) 0 → b ≡ true → length left ≡ 0
none_left left b e t = eqb-true _ _ (sym e ∙ t)

pub bool_same : (a b : Bool) → (a ≡ true → b ≡ true) → (b ≡ true → a ≡ true) → a ≡ b
bool_same true b f g = sym (f refl)
bool_same false true f g = g refl
bool_same false false f g = refl

-- one is left where none is left behind it
pub one_left : (left k : ℕ) → left ≡ suc k → eqb left 1 ≡ eqb k 0
one_left left k e =
    bool_same (eqb left 1) (eqb k 0)
    (λ t. eq-eqb k 0 (omega (arith, eqb-true left 1 t, e)))
    (λ t. eq-eqb left 1 (omega (arith, eqb-true k 0 t, e)))

pub not_none : (n : ℕ) → 0 < n → eqb n 0 ≡ false
not_none n l = bool_same (eqb n 0) false (λ t. absurd (omega (arith, eqb-true n 0 t))) (λ f. absurd cc)

pub some_octets : (n : ℕ) → eqb n 0 ≡ false → 0 < n
some_octets zero e = absurd cc
some_octets (suc n) e = omega arith
