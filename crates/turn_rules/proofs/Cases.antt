-- What follows in each case of a test, of an option and of a result.
use Rattle.std.proofs.Common.{◌≡◌, Bool, true, false, Option, Some, None, Result, Ok, Err, IfOk, MatchBool, MatchOption, refl}

pub by_bool : {X Y Z : Type 0} (b : Bool) → (X → Z) → (Y → Z) → MatchBool b X Y → Z
by_bool true left right is = left is
by_bool false left right is = right is

pub by_option : {A X Z : Type 0} {Y : A → Type 0} (o : Option A) → (o ≡ None → X → Z) → ((a : A) → o ≡ Some a → Y a → Z)
    → MatchOption o X Y → Z
by_option None none some is = none refl is
by_option (Some a) none some is = some a refl is

-- what follows of a value follows of a result
pub ok-map : {A E : Type 0} {P Q : A → Type 0} (result : Result A E) → ((a : A) → P a → Q a) → IfOk result P → IfOk result Q
ok-map (Ok a) more holds = more a holds
ok-map (Err error) more holds = holds

pub ok-map2 : {A E : Type 0} {P Q R : A → Type 0} (result : Result A E) → ((a : A) → P a → Q a → R a)
    → IfOk result P → IfOk result Q → IfOk result R
ok-map2 (Ok a) more holds other = more a holds other
ok-map2 (Err error) more holds other = holds
