-- Chains that are read are spelled so, and what is spelled so is read.
use Rattle.std.proofs.Common.{◌≡◌, ℕ, zero, suc, ◌+◌, ◌<◌, ◌⊎◌, Bool, false, List, [], ◌∷◌, length, Result, Ok, Err, refl, sym, ap, subst, ◌∙◌, arith, inl, inr}
use Rattle.std.specs.Prelude.{◌&&◌}
use Rattle.std.proofs.lemmas.Bool.{ltb-false, le-ltb}
use Rattle.std.proofs.lemmas.List.{nil_from_length}
use Rattle.ike_values.specs.Values.{PayloadValue, sk, other}
use Rattle.ike_values.specs.Spelling.{type_of}
use Rattle.ike_values.specs.Chains.{Spells}
use Rattle.ike_grammar.proofs.Steps.{SpellsBody, Front, GoesOn, ChainSteps, steps_spell, spelled_steps}
use Rattle.ike_values.specs.declared.fault.Bad.{Bad}
use Rattle.ike_values.specs.declared.fault.Reason.{Reason}
use Rattle.ike_grammar.specs.OctetRange.{IsOctets}
use Rattle.ike_grammar.specs.Kinds.{payload_kind, is_sk}
use Rattle.ike_grammar.specs.Faults.{◌>>=◌}
use Rattle.ike_grammar.specs.Chain.{payload_at, end_tests, chain_by, chain_at, Refused}
use Rattle.ike_grammar.proofs.Binds.{bind_ok, ok_is, unless_ok, unless_passes, differ}
use Rattle.ike_grammar.proofs.Chains.{payload_shortens, chain-end, chain-step}
use Rattle.ike_grammar.proofs.KindLaws.{some_type}
use Rattle.ike_grammar.proofs.PayloadLaws.{NextIs, Leads, payload_found, Stands, goes_to, payload_again}

spells_none : (items : List PayloadValue) (first : ℕ) (inner : Bool) (bytes : List ℕ) → bytes ≡ [] → ChainSteps items first inner bytes → items ≡ []
spells_none [] first inner bytes none s = refl
spells_none (x ∷ items) first inner bytes none s = absurd (omega (arith, ap length s.1.bytes_are, ap length none))

goes_found : (x : PayloadValue) (f : Front) (y : PayloadValue × ℕ × List ℕ) (inner : Bool) (items : List PayloadValue) → Leads x f.next f.rest y → NextIs x f.next → (is_sk (payload_kind (type_of x)) && inner) ≡ false → ChainSteps items y.1 inner y.2
    → (y.0 ≡ x) × GoesOn x inner items f (ChainSteps items f.next inner f.rest)
goes_found (sk x) f y inner items l n stands s =
    let others : ChainSteps items 0 inner f.rest = subst (λ (z : PayloadValue × ℕ × List ℕ). ChainSteps items z.1 inner z.2) l.0 s in
    (ap (λ (z : PayloadValue × ℕ × List ℕ). z.0) l.0, (stands, spells_none items 0 inner f.rest l.1 others, l.1, sym n))
goes_found item f y inner items l n stands s =
    (ap (λ (z : PayloadValue × ℕ × List ℕ). z.0) l, subst (λ (z : PayloadValue × ℕ × List ℕ). ChainSteps items z.1 inner z.2) l s)

chain_by_found : (n end : ℕ) (inner : Bool) (number : ℕ) (bytes : List ℕ) (xs : List PayloadValue) → IsOctets bytes → length bytes < n → chain_by n end inner number bytes ≡ Ok xs → ChainSteps xs number inner bytes
unfolding chain_by
chain_by_found zero end inner number bytes xs fits l e = absurd (omega arith)
chain_by_found (suc n) end inner zero bytes xs fits l e =
    let u = unless_ok (end_tests end bytes) (Ok []) xs e in
    let le = ltb-false 0 (length bytes) u.0.0 in
    let nothing : bytes ≡ [] = nil_from_length bytes (omega arith) in
    subst (λ (ys : List PayloadValue). ChainSteps ys 0 inner bytes) (ok_is [] xs u.1) (refl, nothing)
chain_by_found (suc n) end inner (suc number) bytes xs fits l e =
    let first = bind_ok (payload_at end (suc number) inner bytes) (λ x. chain_by n end inner x.1 x.2 >>= λ others. Ok (x.0 ∷ others)) xs e in
    let others = bind_ok (chain_by n end inner first.0.1 first.0.2) (λ ys. Ok (first.0.0 ∷ ys)) xs first.2 in
    let found = payload_found end (suc number) inner bytes first.0 fits (omega arith) first.1 in
    let shorter = payload_shortens end (suc number) inner bytes first.0 first.1 in
    let rest_fits : IsOctets first.0.2 = subst IsOctets (sym found.left_is) found.rest_fits in
    let more = chain_by_found n end inner first.0.1 first.0.2 others.0 rest_fits (omega (arith, shorter)) others.1 in
    let stands : (is_sk (payload_kind (type_of found.payload)) && inner) ≡ false = subst (λ (k : ℕ). (is_sk (payload_kind k) && inner) ≡ false) found.spelled.first_is found.stands in
    let goes = goes_found found.payload found.front first.0 inner others.0 found.leads found.next_is stands more in
    let whole : ChainSteps (found.payload ∷ others.0) (suc number) inner bytes = (found.front, found.spelled, goes.1) in
    subst (λ (ys : List PayloadValue). ChainSteps ys (suc number) inner bytes) (ap (λ (y : PayloadValue). y ∷ others.0) (sym goes.0) ∙ ok_is (first.0.0 ∷ others.0) xs others.2) whole

pub chain_found : (end : ℕ) (inner : Bool) (first : ℕ) (bytes : List ℕ) (xs : List PayloadValue) → IsOctets bytes → chain_at end inner first bytes ≡ Ok xs → Spells xs first inner bytes
chain_found end inner first bytes xs fits e = steps_spell xs first inner bytes (chain_by_found (length bytes + 1) end inner first bytes xs fits (omega arith) e)

pub some_first : (x : PayloadValue) (body : List ℕ) → SpellsBody x body → 0 < type_of x
some_first (other x) body s = some_type x.kind s.1
some_first item body s = omega arith

-- what goes on, as the next step reads it
goes_again : (x : PayloadValue) (inner : Bool) (items : List PayloadValue) (f : Front) → GoesOn x inner items f (ChainSteps items f.next inner f.rest) → Stands x inner f × ChainSteps items (goes_to x f) inner f.rest
goes_again (sk x) inner items f g = ((g.0, g.2, g.3), subst (λ (ys : List PayloadValue). ChainSteps ys 0 inner f.rest) (sym g.1) (refl, g.2))
goes_again item inner items f g = (tt, g)

steps_again : (end : ℕ) (inner : Bool) (xs : List PayloadValue) (first : ℕ) (bytes : List ℕ) → ChainSteps xs first inner bytes → chain_at end inner first bytes ≡ Ok xs
steps_again end inner [] first bytes s =
    ap (λ (k : ℕ). chain_at end inner k bytes) s.0 ∙
    chain-end end inner bytes ∙
    unless_passes (end_tests end bytes) (Ok []) (le-ltb 0 (length bytes) (omega (arith, ap length s.1)), tt)
steps_again end inner (x ∷ xs) first bytes s =
    let goes = goes_again x inner xs s.0 s.2 in
    let some : 0 < first = (let t = some_first x s.0.body s.1.body_is in omega (arith, s.1.first_is)) in
    chain-step end inner first bytes some ∙
    ap (λ (r : Result (PayloadValue × ℕ × List ℕ) Bad). r >>= λ y. chain_at end inner y.1 y.2 >>= λ others. Ok (y.0 ∷ others)) (payload_again end first inner bytes x s.0 s.1 goes.0) ∙
    ap (λ (r : Result (List PayloadValue) Bad). r >>= λ others. Ok (x ∷ others)) (steps_again end inner xs (goes_to x s.0) s.0.rest goes.1)

pub chain_again : (end : ℕ) (inner : Bool) (xs : List PayloadValue) (first : ℕ) (bytes : List ℕ) → Spells xs first inner bytes → chain_at end inner first bytes ≡ Ok xs
chain_again end inner xs first bytes s = steps_again end inner xs first bytes (spelled_steps xs first inner bytes s)

-- ---- one reading

either : (bytes : List ℕ) (first : ℕ) (inner : Bool) (r : Result (List PayloadValue) Bad) → IsOctets bytes → chain_at (length bytes) inner first bytes ≡ r
    → ((xs : List PayloadValue) × Spells xs first inner bytes) ⊎ ((place : ℕ) × (reason : Reason) × Refused first inner bytes place reason)
either bytes first inner (Ok xs) fits e = inl (xs, chain_found (length bytes) inner first bytes xs fits e)
either bytes first inner (Err b) fits e = inr (b.place, b.reason, e)

pub some_reading : (first : ℕ) (inner : Bool) (bytes : List ℕ) → IsOctets bytes → ((xs : List PayloadValue) × Spells xs first inner bytes) ⊎ ((place : ℕ) × (reason : Reason) × Refused first inner bytes place reason)
some_reading first inner bytes fits = either bytes first inner (chain_at (length bytes) inner first bytes) fits refl

pub one_value : (first : ℕ) (inner : Bool) (bytes : List ℕ) (xs ys : List PayloadValue) → Spells xs first inner bytes → Spells ys first inner bytes → xs ≡ ys
one_value first inner bytes xs ys s t = ok_is xs ys (sym (chain_again (length bytes) inner xs first bytes s) ∙ chain_again (length bytes) inner ys first bytes t)

pub not_both : (first : ℕ) (inner : Bool) (bytes : List ℕ) (xs : List PayloadValue) (place : ℕ) (reason : Reason) → Spells xs first inner bytes → Refused first inner bytes place reason → ⊥
not_both first inner bytes xs place reason s r =
    differ xs (record { place = place; reason = reason }) (chain_at (length bytes) inner first bytes) (chain_again (length bytes) inner xs first bytes s) r
