-- A chain of payloads, as a loop reads it.
use Rattle.std.proofs.Common.{◌≡◌, ℕ, zero, suc, ◌+◌, ◌-◌, ◌≤◌, ◌<◌, Bool, true, false, List, [], ◌∷◌, ◌++◌, length, Result, Ok, Err, refl, sym, ap, subst, ◌∙◌, append_assoc, arith}
use Rattle.std.specs.Prelude.{slice_index, nat_lt}
use Rattle.std.proofs.lemmas.Bool.{ltb-false, lt-ltb, le-ltb, or_parts}
use Rattle.std.proofs.lemmas.List.{length-drop, append-nil}
use Rattle.ike_values.specs.Values.{PayloadValue}
use Rattle.ike_values.specs.declared.fault.Bad.{Bad}
use Rattle.ike_values.specs.declared.fault.Reason.TheVariants.{Trailing}
use Rattle.ike_grammar.specs.declared.fault.Unread.{Unread}
use Rattle.ike_grammar.specs.declared.fault.Unread.TheVariants as unread
use Rattle.ike_grammar.specs.declared.kind.Kind.{Kind}
use Rattle.ike_grammar.specs.declared.kind.Kind.TheVariants.{Sk}
use Rattle.ike_grammar.specs.Kinds.{payload_kind}
use Rattle.ike_grammar.specs.Faults.{◌>>=◌, Fails, unless, two_at}
use Rattle.ike_grammar.specs.Chain.{body_at, payload_tests, body_of, behind_payload, last_tests, leads_to, payload_at, end_tests, chain_by, chain_at}
use Rattle.ike_grammar.proofs.Binds.{bind_ok, bind_same, ok_is, unless_ok}
use Rattle.ike_grammar.proofs.Many.{with_items}

-- what is left behind a payload
pub leads_left : (kind : Kind) (end next : ℕ) (left : List ℕ) (payload : PayloadValue) (x : PayloadValue × ℕ × List ℕ) → leads_to kind end next left payload ≡ Ok x → x.2 ≡ left
leads_left Sk end next left payload x e =
    let u = unless_ok (last_tests end left) (Ok (payload, 0, left)) x e in
    subst (λ (y : PayloadValue × ℕ × List ℕ). y.2 ≡ left) (ok_is (payload, 0, left) x u.1) refl
leads_left kind end next left payload x e = subst (λ (y : PayloadValue × ℕ × List ℕ). y.2 ≡ left) (ok_is (payload, next, left) x e) refl

pub payload_shortens : (end number : ℕ) (inner : Bool) (bytes : List ℕ) (x : PayloadValue × ℕ × List ℕ) → payload_at end number inner bytes ≡ Ok x → length x.2 + 4 ≤ length bytes
unfolding payload_at
payload_shortens end number inner bytes x e =
    let u = unless_ok (payload_tests end number inner bytes) (body_at (payload_kind number) (end - length (behind_payload bytes)) number (slice_index bytes 0) (body_of bytes) >>= λ payload. leads_to (payload_kind number) end (slice_index bytes 0) (behind_payload bytes) payload) x e in
    let b = bind_ok (body_at (payload_kind number) (end - length (behind_payload bytes)) number (slice_index bytes 0) (body_of bytes)) (λ payload. leads_to (payload_kind number) end (slice_index bytes 0) (behind_payload bytes) payload) x u.1 in
    let t = or_parts _ _ u.0.1.0 in
    let least : 4 ≤ two_at bytes 2 = ltb-false _ _ t.0 in
    let most : two_at bytes 2 ≤ length bytes = ltb-false _ _ t.1 in
    rw (leads_left (payload_kind number) end (slice_index bytes 0) (behind_payload bytes) b.0 x b.2) (omega (arith, length-drop (two_at bytes 2) bytes))

pub enough : (end : ℕ) (inner : Bool) (n m number : ℕ) (bytes : List ℕ) → length bytes < n → length bytes < m → chain_by n end inner number bytes ≡ chain_by m end inner number bytes
unfolding chain_by
enough end inner zero m number bytes l k = absurd (omega arith)
enough end inner (suc n) zero number bytes l k = absurd (omega arith)
enough end inner (suc n) (suc m) zero bytes l k = refl
enough end inner (suc n) (suc m) (suc number) bytes l k =
    bind_same (payload_at end (suc number) inner bytes) _ _ (λ x e.
    let shorter = payload_shortens end (suc number) inner bytes x e in
    ap (λ read. read >>= λ others. Ok (x.0 ∷ others)) (enough end inner n m x.1 x.2 (omega arith) (omega arith)))

pub chain-end : (end : ℕ) (inner : Bool) (bytes : List ℕ) → chain_at end inner 0 bytes ≡ unless (end_tests end bytes) (Ok [])
unfolding chain_by
chain-end end inner bytes =
    let n : length bytes + 1 ≡ suc (length bytes) = omega arith in
    ap (λ k. chain_by k end inner 0 bytes) n

pub chain-step : (end : ℕ) (inner : Bool) (number : ℕ) (bytes : List ℕ) → 0 < number
    → chain_at end inner number bytes ≡ (payload_at end number inner bytes >>= λ first. chain_at end inner first.1 first.2 >>= λ others. Ok (first.0 ∷ others))
unfolding chain_by
chain-step end inner zero bytes some = absurd (omega arith)
chain-step end inner (suc number) bytes some =
    let n : length bytes + 1 ≡ suc (length bytes) = omega arith in
    ap (λ k. chain_by k end inner (suc number) bytes) n ∙
    bind_same (payload_at end (suc number) inner bytes) _ _ (λ x e.
    let shorter = payload_shortens end (suc number) inner bytes x e in
    ap (λ read. read >>= λ others. Ok (x.0 ∷ others)) (enough end inner (length bytes) (length x.2 + 1) x.1 x.2 (omega arith) (omega arith)))

regroup : (front : List PayloadValue) (x : PayloadValue) (read : Result (List PayloadValue) Bad) → with_items front (read >>= λ xs. Ok (x ∷ xs)) ≡ with_items (front ++ x ∷ []) read
regroup front x (Ok xs) = ap (λ (ys : List PayloadValue). Ok ys) (simp append_assoc)
regroup front x (Err b) = refl

pub goes_on : (end : ℕ) (inner : Bool) (front : List PayloadValue) (number : ℕ) (bytes : List ℕ) (x : PayloadValue) (next : ℕ) (left : List ℕ) (total : Result (List PayloadValue) Bad) → 0 < number → payload_at end number inner bytes ≡ Ok (x, next, left)
    → with_items front (chain_at end inner number bytes) ≡ total → with_items (front ++ x ∷ []) (chain_at end inner next left) ≡ total
goes_on end inner front number bytes x next left total some e so_far =
    let one_more : with_items front (chain_at end inner number bytes) ≡ with_items (front ++ x ∷ []) (chain_at end inner next left) = rw (chain-step end inner number bytes some, e) (regroup front x (chain_at end inner next left)) in
    sym one_more ∙ so_far

pub ends : (end : ℕ) (inner : Bool) (e : Unread) (front : List PayloadValue) (number : ℕ) (bytes : List ℕ) (total : Result (List PayloadValue) Bad) → 0 < number → Fails e (payload_at end number inner bytes)
    → with_items front (chain_at end inner number bytes) ≡ total → Fails e total
ends end inner (unread.Memory m) front number bytes total some e so_far = tt
ends end inner (unread.Bad b) front number bytes total some e so_far =
    let stopped : with_items front (chain_at end inner number bytes) ≡ Err b = rw (chain-step end inner number bytes some, e) refl in
    sym so_far ∙ stopped

closed_by : (front : List PayloadValue) (test : Bool) (bad : Bad) → with_items front (unless ((test, bad) ∷ []) (Ok [])) ≡ unless ((test, bad) ∷ []) (Ok front)
closed_by front true bad = refl
closed_by front false bad = ap (λ (ys : List PayloadValue). Ok ys) (append-nil front)

-- at the end of a chain
pub closes : (end : ℕ) (inner : Bool) (front : List PayloadValue) (bytes : List ℕ) (total : Result (List PayloadValue) Bad)
    → with_items front (chain_at end inner 0 bytes) ≡ total → total ≡ unless (end_tests end bytes) (Ok front)
closes end inner front bytes total so_far =
    sym so_far ∙ ap (with_items front) (chain-end end inner bytes) ∙ closed_by front (nat_lt 0 (length bytes)) (record { place = end - length bytes; reason = Trailing })

pub closes_bad : (end : ℕ) (inner : Bool) (front : List PayloadValue) (number : ℕ) (bytes : List ℕ) (total : Result (List PayloadValue) Bad) → number ≡ 0 → 0 < length bytes
    → with_items front (chain_at end inner number bytes) ≡ total → total ≡ Err (record { place = end - length bytes; reason = Trailing })
closes_bad end inner front number bytes total none some so_far =
    let at_end : with_items front (chain_at end inner 0 bytes) ≡ total = subst (λ k. with_items front (chain_at end inner k bytes) ≡ total) none so_far in
    closes end inner front bytes total at_end ∙ rw (lt-ltb 0 (length bytes) some) refl

pub closes_done : (end : ℕ) (inner : Bool) (front : List PayloadValue) (number : ℕ) (bytes : List ℕ) (total : Result (List PayloadValue) Bad) → number ≡ 0 → length bytes ≡ 0
    → with_items front (chain_at end inner number bytes) ≡ total → total ≡ Ok front
closes_done end inner front number bytes total none empty so_far =
    let at_end : with_items front (chain_at end inner 0 bytes) ≡ total = subst (λ k. with_items front (chain_at end inner k bytes) ≡ total) none so_far in
    closes end inner front bytes total at_end ∙ rw (le-ltb 0 (length bytes) (omega arith)) refl
