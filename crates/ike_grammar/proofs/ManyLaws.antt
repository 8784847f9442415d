-- Items one after another: what is read is spelled so and read again, by a law of one item.
use Rattle.std.proofs.Common.{◌≡◌, ℕ, zero, suc, ◌≤◌, List, [], ◌∷◌, length, Result, Ok, ap, subst, ◌∙◌, arith}
use Rattle.ike_values.specs.declared.fault.Bad.{Bad}
use Rattle.ike_grammar.specs.OctetRange.{IsOctets}
use Rattle.ike_grammar.specs.Faults.{◌>>=◌, many_by, many}
use Rattle.ike_grammar.proofs.Binds.{bind_ok, ok_is}
use Rattle.ike_grammar.proofs.Many.{Shortens, many-step, many-none}

-- How one reads the items of lists that octets spell.
pub record Items {X : Type 0} (one : List ℕ → Result (X × List ℕ) Bad) (Spelled : List X → List ℕ → Type 0) : Type 0 where
  pub shortens : Shortens one
  pub rest_fits : (bytes : List ℕ) (x : X × List ℕ) → IsOctets bytes → one bytes ≡ Ok x → IsOctets x.1
  pub none : Spelled [] []
  pub found : (bytes : List ℕ) (x : X × List ℕ) (xs : List X) → IsOctets bytes → one bytes ≡ Ok x → Spelled xs x.1 → Spelled (x.0 ∷ xs) bytes
  pub empty : (bytes : List ℕ) → Spelled [] bytes → bytes ≡ []
  pub again : (bytes : List ℕ) (x : X) (xs : List X) → Spelled (x ∷ xs) bytes → (rest : List ℕ) × (one bytes ≡ Ok (x, rest)) × Spelled xs rest

many_by_found : {X : Type 0} (one : List ℕ → Result (X × List ℕ) Bad) (Spelled : List X → List ℕ → Type 0) → Items one Spelled → (n : ℕ) (bytes : List ℕ) (xs : List X) → IsOctets bytes → length bytes ≤ n → many_by one n bytes ≡ Ok xs → Spelled xs bytes
unfolding many_by
many_by_found one Spelled items zero [] xs fits l e = subst (λ ys. Spelled ys []) (ok_is [] xs e) items.none
many_by_found one Spelled items (suc n) [] xs fits l e = subst (λ ys. Spelled ys []) (ok_is [] xs e) items.none
many_by_found one Spelled items zero (b ∷ bytes) xs fits l e = absurd (omega arith)
many_by_found one Spelled items (suc n) (b ∷ bytes) xs fits l e =
    let first = bind_ok (one (b ∷ bytes)) (λ x. many_by one n x.1 >>= λ others. Ok (x.0 ∷ others)) xs e in
    let others = bind_ok (many_by one n first.0.1) (λ ys. Ok (first.0.0 ∷ ys)) xs first.2 in
    let shorter = items.shortens.by (b ∷ bytes) first.0 first.1 in
    let inner = many_by_found one Spelled items n first.0.1 others.0 (items.rest_fits (b ∷ bytes) first.0 fits first.1) (omega arith) others.1 in
    subst (λ ys. Spelled ys (b ∷ bytes)) (ok_is (first.0.0 ∷ others.0) xs others.2) (items.found (b ∷ bytes) first.0 others.0 fits first.1 inner)

pub many_found : {X : Type 0} (one : List ℕ → Result (X × List ℕ) Bad) (Spelled : List X → List ℕ → Type 0) → Items one Spelled → (bytes : List ℕ) (xs : List X) → IsOctets bytes → many one bytes ≡ Ok xs → Spelled xs bytes
many_found one Spelled items bytes xs fits e = many_by_found one Spelled items (length bytes) bytes xs fits (omega arith) e

pub many_again : {X : Type 0} (one : List ℕ → Result (X × List ℕ) Bad) (Spelled : List X → List ℕ → Type 0) → Items one Spelled → (bytes : List ℕ) (xs : List X) → Spelled xs bytes → many one bytes ≡ Ok xs
many_again one Spelled items bytes [] s = ap (λ b. many one b) (items.empty bytes s) ∙ many-none one
many_again one Spelled items bytes (x ∷ xs) s =
    let first = items.again bytes x xs s in
    let shorter = items.shortens.by bytes (x, first.0) first.1 in
    many-step one items.shortens bytes (omega arith) ∙
    ap (λ r. r >>= λ y. many one y.1 >>= λ others. Ok (y.0 ∷ others)) first.1 ∙
    ap (λ r. r >>= λ others. Ok (x ∷ others)) (many_again one Spelled items first.0 xs first.2)
