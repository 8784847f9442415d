-- A body without an inner list that is read is spelled so, and what is spelled so is read.
use Rattle.std.proofs.Common.{◌≡◌, ℕ, ◌+◌, ◌-◌, ◌*◌, ◌/◌, ◌%◌, ◌^◌, ◌≤◌, ◌<◌, eq-eqb, List, ◌∷◌, ◌++◌, length, take, drop, Ok, refl, sym, ap, subst, ◌∙◌, append_assoc, arith, length-append}
use Rattle.std.specs.Prelude.{slice_index}
use Rattle.std.specs.Int.{w64, to_be_bytes, from_be_bytes}
use Rattle.std.proofs.lemmas.Bool.{ltb-false, le-ltb, eqb-true, not-false, not_from_true, or_parts, or_from}
use Rattle.std.proofs.lemmas.List.{take-append-drop, take_at, drop_at, length-take, length-drop}
use Rattle.std.proofs.lemmas.Nat.{be_bytes_8, from_be_bytes-to_be_bytes_8}
use Rattle.ike_values.specs.Values.{IdValue, AuthValue, NotifyValue, DeleteValue, SkValue}
use Rattle.ike_values.specs.Spelling.{two}
use Rattle.ike_grammar.proofs.Steps.{SpellsNumbered, SpellsNonce, SpellsNotify, SpellsDelete, SpellsSk}
use Rattle.ike_grammar.specs.OctetRange.{IsOctets}
use Rattle.ike_grammar.specs.Faults.{Passes}
use Rattle.ike_grammar.specs.Bodies.{numbered_tests, id_at, auth_at, nonce_tests, nonce_at, notify_tests, notify_read, notify_at, delete_tests, delete_read, delete_at, sk_tests, sk_read, sk_at}
use Rattle.ike_grammar.proofs.Binds.{done, ok_is, unless_ok, unless_passes}
use Rattle.ike_grammar.proofs.Cells.{IsOctets-take, heads4, same4, high, low, two_again}

-- ---- a number, three reserved octets and content

numbered_found : (end : ℕ) (body : List ℕ) → Passes (numbered_tests end body)
    → SpellsNumbered (slice_index body 0) (drop 4 body) body (slice_index body 1, slice_index body 2, slice_index body 3)
numbered_found end body p = record { bytes_are = heads4 body (ltb-false _ _ p.0) }

numbered_again : (end number : ℕ) (content body : List ℕ) (r : ℕ × ℕ × ℕ) → SpellsNumbered number content body r → Passes (numbered_tests end body) × (slice_index body 0 ≡ number) × (drop 4 body ≡ content)
numbered_again end number content body r s =
    ((le-ltb _ _ (omega (arith, ap length s.bytes_are)), tt), ap (λ (b : List ℕ). slice_index b 0) s.bytes_are, ap (λ (b : List ℕ). drop 4 b) s.bytes_are)

pub id_found : (end : ℕ) (body : List ℕ) (x : IdValue) → id_at end body ≡ Ok x → (r : ℕ × ℕ × ℕ) × SpellsNumbered x.kind x.content body r
unfolding id_at
id_found end body x e =
    let read : IdValue = record { kind = slice_index body 0; content = drop 4 body } in
    let u = unless_ok (numbered_tests end body) (Ok read) x e in
    subst (λ (y : IdValue). (r : ℕ × ℕ × ℕ) × SpellsNumbered y.kind y.content body r) (ok_is read x u.1) ((slice_index body 1, slice_index body 2, slice_index body 3), numbered_found end body u.0)

pub id_again : (end : ℕ) (body : List ℕ) (x : IdValue) (r : ℕ × ℕ × ℕ) → SpellsNumbered x.kind x.content body r → id_at end body ≡ Ok x
unfolding id_at
id_again end body x r s =
    let read : IdValue = record { kind = slice_index body 0; content = drop 4 body } in
    let a = numbered_again end x.kind x.content body r s in
    let same : read ≡ x = rw (a.1, a.2) refl in
    unless_passes (numbered_tests end body) (Ok read) a.0 ∙ ap (λ (y : IdValue). done y) same

pub auth_found : (end : ℕ) (body : List ℕ) (x : AuthValue) → auth_at end body ≡ Ok x → (r : ℕ × ℕ × ℕ) × SpellsNumbered x.method x.content body r
unfolding auth_at
auth_found end body x e =
    let read : AuthValue = record { method = slice_index body 0; content = drop 4 body } in
    let u = unless_ok (numbered_tests end body) (Ok read) x e in
    subst (λ (y : AuthValue). (r : ℕ × ℕ × ℕ) × SpellsNumbered y.method y.content body r) (ok_is read x u.1) ((slice_index body 1, slice_index body 2, slice_index body 3), numbered_found end body u.0)

pub auth_again : (end : ℕ) (body : List ℕ) (x : AuthValue) (r : ℕ × ℕ × ℕ) → SpellsNumbered x.method x.content body r → auth_at end body ≡ Ok x
unfolding auth_at
auth_again end body x r s =
    let read : AuthValue = record { method = slice_index body 0; content = drop 4 body } in
    let a = numbered_again end x.method x.content body r s in
    let same : read ≡ x = rw (a.1, a.2) refl in
    unless_passes (numbered_tests end body) (Ok read) a.0 ∙ ap (λ (y : AuthValue). done y) same

-- ---- nonces

pub nonce_found : (end : ℕ) (body x : List ℕ) → nonce_at end body ≡ Ok x → SpellsNonce x body
unfolding nonce_at
nonce_found end body x e =
    let u = unless_ok (nonce_tests end body) (Ok body) x e in
    let t = or_parts _ _ u.0.0 in
    subst (λ (y : List ℕ). SpellsNonce y body) (ok_is body x u.1) (record { bytes_are = refl; long = ltb-false _ _ t.0; short = ltb-false _ _ t.1 })

pub nonce_again : (end : ℕ) (body x : List ℕ) → SpellsNonce x body → nonce_at end body ≡ Ok x
unfolding nonce_at
nonce_again end body x s =
    ap (nonce_at end) s.bytes_are ∙
    unless_passes (nonce_tests end x) (Ok x) (or_from _ _ (le-ltb _ _ s.long) (le-ltb _ _ s.short), tt)

-- ---- notifications

pub notify_found : (end : ℕ) (body : List ℕ) (x : NotifyValue) → IsOctets body → notify_at end body ≡ Ok x → SpellsNotify x body
unfolding notify_at
notify_found end body x fits e =
    let u = unless_ok (notify_tests end body) (Ok (notify_read body)) x e in
    let long : 4 ≤ length body = ltb-false _ _ u.0.0 in
    let size = slice_index body 1 in
    let size_fits : size ≤ length (drop 4 body) = ltb-false _ _ u.0.1.0 in
    let spi : length (take size (drop 4 body)) ≡ size = omega (arith, length-take size (drop 4 body)) in
    subst (λ (y : NotifyValue). SpellsNotify y body) (ok_is (notify_read body) x u.1)
    (record {
      bytes_are = heads4 body long ∙ same4 refl (sym spi) (sym (high (slice_index body 2) (slice_index body 3) (fits 3))) (sym (low (slice_index body 2) (slice_index body 3) (fits 3))) (sym (take-append-drop size (drop 4 body)));
      spi_fits = omega (arith, spi, fits 1);
    })

notify_same : (p k k' : ℕ) (s s' c c' : List ℕ) → s ≡ s' → k ≡ k' → c ≡ c' → (let made : NotifyValue = record { protocol = p; spi = s; kind = k; content = c } in done made) ≡ (let made : NotifyValue = record { protocol = p; spi = s'; kind = k'; content = c' } in done made)
notify_same p k k' s s' c c' e f g = rw (e, f, g) refl

pub notify_again : (end : ℕ) (body : List ℕ) (x : NotifyValue) → SpellsNotify x body → notify_at end body ≡ Ok x
unfolding notify_at
notify_again end body x s =
    let bytes : List ℕ = x.protocol ∷ length x.spi ∷ two x.kind ++ x.spi ++ x.content in
    ap (notify_at end) s.bytes_are ∙
    unless_passes (notify_tests end bytes) (Ok (notify_read bytes)) (le-ltb (length bytes) 4 (omega arith), (le-ltb _ _ (omega (arith, length-append x.spi x.content)), tt)) ∙
    notify_same x.protocol _ x.kind _ x.spi _ x.content (take_at x.spi x.content (length x.spi) refl) (two_again x.kind) (drop_at x.spi x.content (length x.spi) refl)

-- ---- deletions

pub delete_found : (end : ℕ) (body : List ℕ) (x : DeleteValue) → IsOctets body → delete_at end body ≡ Ok x → SpellsDelete x body
unfolding delete_at
delete_found end body x fits e =
    let u = unless_ok (delete_tests end body) (Ok (delete_read body)) x e in
    let long : 4 ≤ length body = ltb-false _ _ u.0.0 in
    subst (λ (y : DeleteValue). SpellsDelete y body) (ok_is (delete_read body) x u.1)
    (record {
      bytes_are = heads4 body long ∙ same4 refl refl (sym (high (slice_index body 2) (slice_index body 3) (fits 3))) (sym (low (slice_index body 2) (slice_index body 3) (fits 3))) refl;
      spis_fit = eqb-true _ _ (not-false _ u.0.1.0);
    })

delete_same : (p z n n' : ℕ) (s : List ℕ) → n ≡ n' → (let made : DeleteValue = record { protocol = p; size = z; number = n; spis = s } in done made) ≡ (let made : DeleteValue = record { protocol = p; size = z; number = n'; spis = s } in done made)
delete_same p z n n' s e = rw e refl

pub delete_again : (end : ℕ) (body : List ℕ) (x : DeleteValue) → SpellsDelete x body → delete_at end body ≡ Ok x
unfolding delete_at
delete_again end body x s =
    let bytes : List ℕ = x.protocol ∷ x.size ∷ two x.number ++ x.spis in
    let sizes : length x.spis ≡ x.size * (256 * (x.number / 256) + x.number % 256) = s.spis_fit ∙ ap (λ (k : ℕ). x.size * k) (sym (two_again x.number)) in
    ap (delete_at end) s.bytes_are ∙
    unless_passes (delete_tests end bytes) (Ok (delete_read bytes)) (le-ltb (length bytes) 4 (omega arith), (not_from_true _ (eq-eqb _ _ sizes), tt)) ∙
    delete_same x.protocol x.size _ x.number x.spis (two_again x.number)

-- ---- encrypted payloads

pub eight_below : (bytes : List ℕ) → IsOctets bytes → from_be_bytes w64 bytes < 2 ^ 64
eight_below bytes fits = omega (arith, fits 0, fits 1, fits 2, fits 3, fits 4, fits 5, fits 6, fits 7)

pub sk_found : (end first : ℕ) (body : List ℕ) (x : SkValue) → IsOctets body → sk_at end first body ≡ Ok x → SpellsSk x body × (x.first ≡ first)
unfolding sk_at
sk_found end first body x fits e =
    let u = unless_ok (sk_tests end body) (Ok (sk_read first body)) x e in
    let long : 25 ≤ length body = ltb-false _ _ u.0.0 in
    let sealed = drop 8 body in
    let sealed_len : length sealed ≡ length body - 8 = length-drop 8 body in
    let size = length sealed - 16 in
    let front : length (take 8 body) ≡ 8 = omega (arith, length-take 8 body) in
    let iv : to_be_bytes w64 (from_be_bytes w64 (take 8 body)) ≡ take 8 body = be_bytes_8 (take 8 body) _ front (IsOctets-take 8 body fits) refl in
    let parts : body ≡ take 8 body ++ (take size sealed ++ drop size sealed) = sym (take-append-drop 8 body) ∙ ap (λ (t : List ℕ). take 8 body ++ t) (sym (take-append-drop size sealed)) in
    subst (λ (y : SkValue). SpellsSk y body × (y.first ≡ first)) (ok_is (sk_read first body) x u.1) (
      record {
        bytes_are = parts ∙ ap (λ (t : List ℕ). t ++ (take size sealed ++ drop size sealed)) (sym iv) ∙ sym (append_assoc (to_be_bytes w64 (from_be_bytes w64 (take 8 body))) (take size sealed) (drop size sealed));
        iv_fits = eight_below (take 8 body) (IsOctets-take 8 body fits);
        some = omega (arith, length-take size sealed);
        icv_len = omega (arith, length-drop size sealed);
      },
      refl,
    )

sk_same : (f f' v v' : ℕ) (c c' i i' : List ℕ) → f ≡ f' → v ≡ v' → c ≡ c' → i ≡ i' → (let made : SkValue = record { first = f; iv = v; ciphertext = c; icv = i } in done made) ≡ (let made : SkValue = record { first = f'; iv = v'; ciphertext = c'; icv = i' } in done made)
sk_same f f' v v' c c' i i' d e g h = rw (d, e, g, h) refl

pub sk_again : (end first : ℕ) (body : List ℕ) (x : SkValue) → SpellsSk x body → first ≡ x.first → sk_at end first body ≡ Ok x
unfolding sk_at
sk_again end first body x s f =
    let sealed : List ℕ = x.ciphertext ++ x.icv in
    let bytes : List ℕ = to_be_bytes w64 x.iv ++ sealed in
    let size : length sealed - 16 ≡ length x.ciphertext = omega (arith, length-append x.ciphertext x.icv, s.icv_len) in
    ap (sk_at end first) (s.bytes_are ∙ append_assoc (to_be_bytes w64 x.iv) x.ciphertext x.icv) ∙
    unless_passes (sk_tests end bytes) (Ok (sk_read first bytes)) (le-ltb (length bytes) 25 (omega (arith, length-append x.ciphertext x.icv, s.icv_len, s.some)), tt) ∙
    sk_same first x.first _ x.iv _ x.ciphertext _ x.icv f (from_be_bytes-to_be_bytes_8 x.iv s.iv_fits) (take_at x.ciphertext x.icv _ (sym size)) (drop_at x.ciphertext x.icv _ (sym size))
