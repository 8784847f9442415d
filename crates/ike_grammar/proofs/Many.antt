-- Items one after another until no octet is left, as a loop reads them.
use Rattle.std.proofs.Common.{◌≡◌, ℕ, zero, suc, ◌≤◌, ◌<◌, List, [], ◌∷◌, ◌++◌, length, Result, Ok, Err, refl, sym, ap, ◌∙◌, append_assoc, arith}
use Rattle.std.proofs.lemmas.List.{append-nil, nil_from_length}
use Rattle.ike_values.specs.declared.fault.Bad.{Bad}
use Rattle.ike_grammar.specs.declared.fault.Unread.{Unread}
use Rattle.ike_grammar.specs.declared.fault.Unread.TheVariants as unread
use Rattle.ike_grammar.specs.Faults.{◌>>=◌, Fails, many_by, many}
use Rattle.ike_grammar.proofs.Binds.{bind_same}

-- each item takes an octet at least
pub record Shortens {X : Type 0} (one : List ℕ → Result (X × List ℕ) Bad) : Type 0 where
  pub by : (bytes : List ℕ) (x : X × List ℕ) → one bytes ≡ Ok x → length x.1 < length bytes

pub enough : {X : Type 0} (one : List ℕ → Result (X × List ℕ) Bad) → Shortens one → (n m : ℕ) (bytes : List ℕ) → length bytes ≤ n → length bytes ≤ m → many_by one n bytes ≡ many_by one m bytes
unfolding many_by
enough one s zero zero [] l k = refl
enough one s zero (suc m) [] l k = refl
enough one s (suc n) zero [] l k = refl
enough one s (suc n) (suc m) [] l k = refl
enough one s zero m (b ∷ bytes) l k = absurd (omega arith)
enough one s (suc n) zero (b ∷ bytes) l k = absurd (omega arith)
enough one s (suc n) (suc m) (b ∷ bytes) l k =
    bind_same (one (b ∷ bytes)) _ _ (λ x e.
    let shorter = s.by (b ∷ bytes) x e in
    ap (λ read. read >>= λ others. Ok (x.0 ∷ others)) (enough one s n m x.1 (omega arith) (omega arith)))

pub many-step : {X : Type 0} (one : List ℕ → Result (X × List ℕ) Bad) → Shortens one → (bytes : List ℕ) → 0 < length bytes
    → many one bytes ≡ (one bytes >>= λ first. many one first.1 >>= λ others. Ok (first.0 ∷ others))
unfolding many_by
many-step one s [] some = absurd (omega arith)
many-step one s (b ∷ bytes) some =
    bind_same (one (b ∷ bytes)) _ _ (λ x e.
    let shorter = s.by (b ∷ bytes) x e in
    ap (λ read. read >>= λ others. Ok (x.0 ∷ others)) (enough one s (length bytes) (length x.1) x.1 (omega arith) (omega arith)))

pub many-none : {X : Type 0} (one : List ℕ → Result (X × List ℕ) Bad) → many one [] ≡ Ok []
unfolding many_by
many-none one = refl

-- the items before, and those that are read
abbrev pub with_items : {X : Type 0} → List X → Result (List X) Bad → Result (List X) Bad
with_items front read = read >>= λ xs. Ok (front ++ xs)

regroup : {X : Type 0} (front : List X) (x : X) (read : Result (List X) Bad) → with_items front (read >>= λ xs. Ok (x ∷ xs)) ≡ with_items (front ++ x ∷ []) read
regroup front x (Ok xs) = ap (λ ys. Ok ys) (simp append_assoc)
regroup front x (Err b) = refl

pub goes_on : {X : Type 0} (one : List ℕ → Result (X × List ℕ) Bad) → Shortens one → (front : List X) (bytes : List ℕ) (x : X) (after : List ℕ) (total : Result (List X) Bad) → 0 < length bytes → one bytes ≡ Ok (x, after)
    → with_items front (many one bytes) ≡ total → with_items (front ++ x ∷ []) (many one after) ≡ total
goes_on one s front bytes x after total some e so_far =
    let one_more : with_items front (many one bytes) ≡ with_items (front ++ x ∷ []) (many one after) = rw (many-step one s bytes some, e) (regroup front x (many one after)) in
    sym one_more ∙ so_far

pub ends : {X : Type 0} (one : List ℕ → Result (X × List ℕ) Bad) → Shortens one → (e : Unread) (front : List X) (bytes : List ℕ) (total : Result (List X) Bad) → 0 < length bytes → Fails e (one bytes)
    → with_items front (many one bytes) ≡ total → Fails e total
ends one s (unread.Memory m) front bytes total some e so_far = tt
ends one s (unread.Bad b) front bytes total some e so_far =
    let stopped : with_items front (many one bytes) ≡ Err b = rw (many-step one s bytes some, e) refl in
    sym so_far ∙ stopped

pub is_done : {X : Type 0} (one : List ℕ → Result (X × List ℕ) Bad) (front : List X) (bytes : List ℕ) (total : Result (List X) Bad) → length bytes ≡ 0 → with_items front (many one bytes) ≡ total → total ≡ Ok front
is_done one front bytes total none so_far =
    let last : with_items front (many one bytes) ≡ Ok front = rw (nil_from_length bytes none, many-none one) (ap (λ xs. Ok xs) (append-nil front)) in
    sym so_far ∙ last
