-- Tests in order, each with the place and the reason of its refusal, and reading that ends at the
-- first one that is met.
use Rattle.std.specs.Prelude.{◌≡◌, ℕ, zero, suc, ◌+◌, ◌*◌, Bool, false, List, [], ◌∷◌, length, slice_index, Result, Ok, Err, if◌then◌else◌}
use Rattle.ike_values.specs.declared.fault.Reason.{Reason}
use Rattle.ike_values.specs.declared.fault.Bad.{Bad}
use Rattle.ike_grammar.specs.declared.fault.Unread.{Unread}
use Rattle.ike_grammar.specs.declared.fault.Unread.TheVariants as unread

infixl 10 ◌>>=◌
-- what was read, and then the rest
abbrev pub ◌>>=◌ : {A B : Type 0} → Result A Bad → (A → Result B Bad) → Result B Bad
(Ok x) >>= f = f x
(Err b) >>= f = Err b

-- a test that refuses, there and for this reason
abbrev pub refuse : Bool → ℕ → Reason → Bool × Bad
refuse test place reason = (test, record { place = place; reason = reason })

-- The first test that is met refuses. Where none is, reading goes on.
abbrev pub unless : {A : Type 0} → List (Bool × Bad) → Result A Bad → Result A Bad
unless [] read = read
unless (t ∷ ts) read = if t.0 then Err t.1 else unless ts read

-- no test is met
abbrev pub Passes : List (Bool × Bad) → Type 0
Passes [] = Unit {0}
Passes (t ∷ ts) = (t.0 ≡ false) × Passes ts

-- What a function returned, seen by view, is what reading gives, unless memory ran out.
abbrev pub Fails : {Y : Type 0} → Unread → Result Y Bad → Type 0
Fails (unread.Memory m) read = Unit {0}
Fails (unread.Bad b) read = read ≡ Err b

abbrev pub Gives : {X Y : Type 0} → (X → Y) → Result X Unread → Result Y Bad → Type 0
Gives view (Ok x) read = read ≡ Ok (view x)
Gives view (Err e) read = Fails e read

-- the number in the two octets there, big-endian
abbrev pub two_at : List ℕ → ℕ → ℕ
two_at bytes i = 256 * slice_index bytes i + slice_index bytes (i + 1)

-- Items one after another, each of which takes some octets, until no octet is left.
unfoldable pub many_by : {X : Type 0} → (List ℕ → Result (X × List ℕ) Bad) → ℕ → List ℕ
    → Result (List X) Bad
many_by one zero bytes = Ok []
many_by one (suc n) [] = Ok []
many_by one (suc n) (b ∷ bytes) = do
  first ← one (b ∷ bytes)
  others ← many_by one n first.1
  Ok (first.0 ∷ others)

abbrev pub many : {X : Type 0} → (List ℕ → Result (X × List ℕ) Bad) → List ℕ → Result (List X) Bad
many one bytes = many_by one (length bytes) bytes

-- this many items, and the octets after them
unfoldable pub so_many : {X : Type 0} → (List ℕ → Result (X × List ℕ) Bad) → ℕ → List ℕ
    → Result (List X × List ℕ) Bad
so_many one zero bytes = Ok ([], bytes)
so_many one (suc n) bytes = do
  first ← one bytes
  others ← so_many one n first.1
  Ok (first.0 ∷ others.0, others.1)

-- memory ran out, or the fault is one of these places and reasons
abbrev pub IsFaultAt : (ℕ → Reason → Type 0) → Unread → Type 0
IsFaultAt P (unread.Memory m) = Unit {0}
IsFaultAt P (unread.Bad b) = P b.place b.reason
