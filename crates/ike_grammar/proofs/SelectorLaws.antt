-- Selectors that are read are spelled so, and what is spelled so is read.
use Rattle.std.proofs.Common.{◌≡◌, ℕ, zero, suc, ◌+◌, ◌*◌, ◌/◌, ◌%◌, ◌≤◌, ◌<◌, Bool, true, false, eq-eqb, List, [], ◌∷◌, ◌++◌, length, take, drop, Result, Ok, refl, sym, ap, subst, ◌∙◌, append_assoc, arith, length-append}
use Rattle.std.specs.Prelude.{slice_index, not, ◌&&◌, ◌||◌, ◌==◌}
use Rattle.std.specs.List.{AllByRecursion}
use Rattle.std.proofs.lemmas.Bool.{ltb-false, le-ltb, eqb-true, not-false, not_from_true}
use Rattle.std.proofs.lemmas.List.{take-append-drop, take_at, drop_at, length-take, length-drop, nil_from_length, append-nil}
use Rattle.ike_values.specs.Values.{SelectorValue}
use Rattle.ike_values.specs.Spelling.{address_len, selector_spelling, selectors_spelling}
use Rattle.ike_values.specs.Validity.{FitsSelector}
use Rattle.ike_grammar.proofs.Steps.{SpellsTraffic}
use Rattle.ike_values.specs.declared.fault.Bad.{Bad}
use Rattle.ike_grammar.specs.OctetRange.{IsOctets}
use Rattle.ike_grammar.specs.Faults.{◌>>=◌, two_at, so_many}
use Rattle.ike_grammar.specs.Selectors.{selector_tests, selector_read, selector_at, traffic_tests, behind_tests, traffic_made, traffic_at}
use Rattle.ike_grammar.proofs.Binds.{done, bind_ok, ok_is, unless_ok, unless_passes, not_none, some_octets}
use Rattle.ike_grammar.proofs.Cells.{IsOctets-drop, heads4, heads8, high, low, two_again}

pub record TakesSelector (bytes : List ℕ) (x : SelectorValue × List ℕ) : Type 0 where
  pub parts : bytes ≡ selector_spelling x.0 ++ x.1
  pub fits : FitsSelector x.0
  pub rest_fits : IsOctets x.1

known : (a b : Bool) → (not a && not b) ≡ false → (a || b) ≡ true
known true b e = refl
known false true e = refl
known false false e = absurd cc

unknown : (a b : Bool) → (a || b) ≡ true → (not a && not b) ≡ false
unknown true b e = refl
unknown false true e = refl
unknown false false e = absurd cc

same_ports : {a b c d e f g h c' d' e' f' g' h' : ℕ} {r r' : List ℕ} → c ≡ c' → d ≡ d' → e ≡ e' → f ≡ f' → g ≡ g' → h ≡ h' → r ≡ r' → a ∷ b ∷ c ∷ d ∷ e ∷ f ∷ g ∷ h ∷ r ≡ a ∷ b ∷ c' ∷ d' ∷ e' ∷ f' ∷ g' ∷ h' ∷ r'
same_ports p q r s t u v = cc

pub selector_takes : (end : ℕ) (bytes : List ℕ) (x : SelectorValue × List ℕ) → IsOctets bytes → selector_at end bytes ≡ Ok x → TakesSelector bytes x
unfolding selector_at
selector_takes end bytes x fits e =
    let u = unless_ok (selector_tests end bytes) (Ok (selector_read bytes)) x e in
    let long : 8 ≤ length bytes = ltb-false _ _ u.0.0 in
    let len = address_len (slice_index bytes 0) in
    let size : two_at bytes 2 ≡ 8 + 2 * len = eqb-true _ _ (not-false _ u.0.1.1.0) in
    let whole : two_at bytes 2 ≤ length bytes = ltb-false _ _ u.0.1.1.1.0 in
    let content = drop 8 bytes in
    let content_len = length-drop 8 bytes in
    let start : length (take len content) ≡ len = omega (arith, length-take len content, content_len, size, whole) in
    let last : length (take len (drop len content)) ≡ len = omega (arith, length-take len (drop len content), length-drop len content, content_len, size, whole) in
    let upper : (8 + 2 * len) / 256 ≡ slice_index bytes 2 = ap (λ (n : ℕ). n / 256) (sym size) ∙ high (slice_index bytes 2) (slice_index bytes 3) (fits 3) in
    let lower : (8 + 2 * len) % 256 ≡ slice_index bytes 3 = ap (λ (n : ℕ). n % 256) (sym size) ∙ low (slice_index bytes 2) (slice_index bytes 3) (fits 3) in
    let parts : content ≡ (take len content ++ take len (drop len content)) ++ drop len (drop len content) =
    sym (take-append-drop len content) ∙ ap (λ (t : List ℕ). take len content ++ t) (sym (take-append-drop len (drop len content))) ∙ sym (append_assoc (take len content) (take len (drop len content)) (drop len (drop len content))) in
    subst (TakesSelector bytes) (ok_is (selector_read bytes) x u.1)
    (record {
      parts = heads8 bytes long ∙ same_ports (sym upper) (sym lower) (sym (high (slice_index bytes 4) (slice_index bytes 5) (fits 5))) (sym (low (slice_index bytes 4) (slice_index bytes 5) (fits 5))) (sym (high (slice_index bytes 6) (slice_index bytes 7) (fits 7))) (sym (low (slice_index bytes 6) (slice_index bytes 7) (fits 7))) parts;
      fits = record { kind_known = known (slice_index bytes 0 == 7) (slice_index bytes 0 == 8) u.0.1.0; start_len = start; end_len = last };
      rest_fits = IsOctets-drop len _ (IsOctets-drop len _ (IsOctets-drop 8 bytes fits));
    })

selector_same : (kind protocol sp sp' ep ep' : ℕ) (s s' e e' r r' : List ℕ) → sp ≡ sp' → ep ≡ ep' → s ≡ s' → e ≡ e' → r ≡ r'
    → (let made : SelectorValue × List ℕ = (record { kind = kind; protocol = protocol; start_port = sp; end_port = ep; start = s; end = e }, r) in done made)
    ≡ (let made : SelectorValue × List ℕ = (record { kind = kind; protocol = protocol; start_port = sp'; end_port = ep'; start = s'; end = e' }, r') in done made)
selector_same kind protocol sp sp' ep ep' s s' e e' r r' a b c d f = rw (a, b, c, d, f) refl

pub selector_again : (end : ℕ) (x : SelectorValue) (rest : List ℕ) → FitsSelector x → selector_at end (selector_spelling x ++ rest) ≡ Ok (x, rest)
unfolding selector_at
selector_again end x rest fits =
    let bytes : List ℕ = selector_spelling x ++ rest in
    let len = address_len x.kind in
    let content : List ℕ = (x.start ++ x.end) ++ rest in
    let regrouped : content ≡ x.start ++ (x.end ++ rest) = append_assoc x.start x.end rest in
    let size : 256 * ((8 + 2 * len) / 256) + (8 + 2 * len) % 256 ≡ 8 + 2 * len = two_again (8 + 2 * len) in
    let start : take len content ≡ x.start = ap (λ (t : List ℕ). take len t) regrouped ∙ take_at x.start (x.end ++ rest) len fits.start_len in
    let behind : drop len content ≡ x.end ++ rest = ap (λ (t : List ℕ). drop len t) regrouped ∙ drop_at x.start (x.end ++ rest) len fits.start_len in
    let last : take len (drop len content) ≡ x.end = ap (λ (t : List ℕ). take len t) behind ∙ take_at x.end rest len fits.end_len in
    let left : drop len (drop len content) ≡ rest = ap (λ (t : List ℕ). drop len t) behind ∙ drop_at x.end rest len fits.end_len in
    unless_passes (selector_tests end bytes) (Ok (selector_read bytes))
    (le-ltb (length bytes) 8 (omega arith), (unknown (x.kind == 7) (x.kind == 8) fits.kind_known, (not_from_true _ (eq-eqb _ _ size), (le-ltb (length bytes) _ (omega (arith, size, length-append (x.start ++ x.end) rest, length-append x.start x.end, fits.start_len, fits.end_len)), tt)))) ∙
    selector_same x.kind x.protocol _ x.start_port _ x.end_port _ x.start _ x.end _ rest (two_again x.start_port) (two_again x.end_port) start last left

-- ---- lists of selectors

pub record TakesSelectors (n : ℕ) (bytes : List ℕ) (x : List SelectorValue × List ℕ) : Type 0 where
  pub parts : bytes ≡ selectors_spelling x.0 ++ x.1
  pub fit : AllByRecursion FitsSelector x.0
  pub count : length x.0 ≡ n

selectors_take : (end n : ℕ) (bytes : List ℕ) (x : List SelectorValue × List ℕ) → IsOctets bytes → so_many (selector_at end) n bytes ≡ Ok x → TakesSelectors n bytes x
unfolding so_many
selectors_take end zero bytes x fits e = subst (TakesSelectors 0 bytes) (ok_is ([], bytes) x e) (record { parts = refl; fit = tt; count = refl })
selectors_take end (suc n) bytes x fits e =
    let first = bind_ok (selector_at end bytes) (λ y. so_many (selector_at end) n y.1 >>= λ others. Ok (y.0 ∷ others.0, others.1)) x e in
    let others = bind_ok (so_many (selector_at end) n first.0.1) (λ ys. Ok (first.0.0 ∷ ys.0, ys.1)) x first.2 in
    let one = selector_takes end bytes first.0 fits first.1 in
    let more = selectors_take end n first.0.1 others.0 one.rest_fits others.1 in
    subst (TakesSelectors (suc n) bytes) (ok_is (first.0.0 ∷ others.0.0, others.0.1) x others.2)
    (record {
      parts = one.parts ∙ ap (λ (r : List ℕ). selector_spelling first.0.0 ++ r) more.parts ∙ sym (append_assoc (selector_spelling first.0.0) (selectors_spelling others.0.0) others.0.1);
      fit = (one.fits, more.fit);
      count = ap suc more.count;
    })

selectors_again : (end : ℕ) (xs : List SelectorValue) (rest : List ℕ) → AllByRecursion FitsSelector xs → so_many (selector_at end) (length xs) (selectors_spelling xs ++ rest) ≡ Ok (xs, rest)
unfolding so_many
selectors_again end [] rest fits = refl
selectors_again end (x ∷ xs) rest fits =
    let regrouped : selectors_spelling (x ∷ xs) ++ rest ≡ selector_spelling x ++ (selectors_spelling xs ++ rest) = append_assoc (selector_spelling x) (selectors_spelling xs) rest in
    ap (so_many (selector_at end) (suc (length xs))) regrouped ∙
    ap (λ (r : Result (SelectorValue × List ℕ) Bad). r >>= λ first. so_many (selector_at end) (length xs) first.1 >>= λ others. Ok (first.0 ∷ others.0, others.1)) (selector_again end x (selectors_spelling xs ++ rest) fits.0) ∙
    ap (λ (r : Result (List SelectorValue × List ℕ) Bad). r >>= λ others. Ok (x ∷ others.0, others.1)) (selectors_again end xs rest fits.1)

pub traffic_found : (end : ℕ) (body : List ℕ) (xs : List SelectorValue) → IsOctets body → traffic_at end body ≡ Ok xs → (r : ℕ × ℕ × ℕ) × SpellsTraffic xs body r
unfolding traffic_at
traffic_found end body xs fits e =
    let u = unless_ok (traffic_tests end body) (so_many (selector_at end) (slice_index body 0) (drop 4 body) >>= λ selectors. traffic_made end selectors) xs e in
    let b = bind_ok (so_many (selector_at end) (slice_index body 0) (drop 4 body)) (λ selectors. traffic_made end selectors) xs u.1 in
    let v = unless_ok (behind_tests end b.0.1) (Ok b.0.0) xs b.2 in
    let long : 4 ≤ length body = ltb-false _ _ u.0.0 in
    let some : 0 < slice_index body 0 = some_octets _ u.0.1.0 in
    let all = selectors_take end (slice_index body 0) (drop 4 body) b.0 (IsOctets-drop 4 body fits) b.1 in
    let nothing : b.0.1 ≡ [] = nil_from_length b.0.1 (let le = ltb-false 0 (length b.0.1) v.0.0 in omega arith) in
    let content : drop 4 body ≡ selectors_spelling b.0.0 = all.parts ∙ ap (λ (r : List ℕ). selectors_spelling b.0.0 ++ r) nothing ∙ append-nil (selectors_spelling b.0.0) in
    subst (λ (ys : List SelectorValue). (r : ℕ × ℕ × ℕ) × SpellsTraffic ys body r) (ok_is b.0.0 xs v.1) (
      (slice_index body 1, slice_index body 2, slice_index body 3),
      record {
        bytes_are = heads4 body long ∙ ap (λ (k : ℕ). k ∷ slice_index body 1 ∷ slice_index body 2 ∷ slice_index body 3 ∷ drop 4 body) (sym all.count) ∙ ap (λ (r : List ℕ). length b.0.0 ∷ slice_index body 1 ∷ slice_index body 2 ∷ slice_index body 3 ∷ r) content;
        some = omega (arith, all.count, some);
        count_fits = omega (arith, all.count, fits 0);
        selectors = all.fit;
      },
    )

pub traffic_again : (end : ℕ) (body : List ℕ) (xs : List SelectorValue) (r : ℕ × ℕ × ℕ) → SpellsTraffic xs body r → traffic_at end body ≡ Ok xs
unfolding traffic_at
traffic_again end body xs r s =
    let bytes : List ℕ = length xs ∷ r.0 ∷ r.1 ∷ r.2 ∷ selectors_spelling xs in
    let all : so_many (selector_at end) (length xs) (selectors_spelling xs) ≡ Ok (xs, []) = ap (so_many (selector_at end) (length xs)) (sym (append-nil (selectors_spelling xs))) ∙ selectors_again end xs [] s.selectors in
    ap (traffic_at end) s.bytes_are ∙
    unless_passes (traffic_tests end bytes) (so_many (selector_at end) (length xs) (selectors_spelling xs) >>= λ selectors. traffic_made end selectors) (le-ltb (length bytes) 4 (omega arith), (not_none (length xs) s.some, tt)) ∙
    ap (λ (q : Result (List SelectorValue × List ℕ) Bad). q >>= λ selectors. traffic_made end selectors) all ∙
    unless_passes (behind_tests end []) (Ok xs) (refl, tt)
