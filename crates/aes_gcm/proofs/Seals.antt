-- What sealing gives, read backwards; and the lengths of all that it is made of.
use Rattle.std.proofs.Common.{◌≡◌, ℕ, zero, suc, ◌+◌, ◌-◌, ◌*◌, ◌/◌, ◌<◌, ◌≤◌, ◌⊎◌, ⊎_elim, inl, inr, Bool, true, false, cond, eqb, ltb, ◌&&◌, ◌%◌, List, length, take, drop, sym, ap, ◌∙◌, arith}
use Rattle.std.proofs.lemmas.List.{length-append, length-take, length-drop, length-map}
use Rattle.ha_base.specs.KeySizes.{HasKeySize}
use Rattle.aes_gcm.specs.Aes.{xored, sub_byte, sub_bytes, rot_word, round_constant, word, changed_word, expanded, schedule, aes}
use Rattle.aes_gcm.specs.Gcm.{cipher_of, nonce_of, counter_block, encrypted, hash_subkey, hashed_text, ghash, tag_under, tag_of, sealed, Sealed}
use Rattle.std.specs.Int.{w128, to_be_bytes}
use Rattle.aes_gcm.specs.Sealing.{IsSealing}
use Rattle.aes_gcm.proofs.Lists.{length-xored}
use Rattle.aes_gcm.proofs.HeldKeys.{length-cipher}
use Rattle.aes_gcm.proofs.Streams.{encrypted_twice, length-encrypted}

-- the parts of what was sealed
module _ (octets : List ℕ) (iv : ℕ) (aad plain crypt tag : List ℕ) (e : sealed octets iv aad plain ≡ record { ciphertext = crypt; tag = tag }) where
  pub ciphertext_is : encrypted (cipher_of octets) (nonce_of octets iv) plain ≡ crypt
  unfolding sealed
  ciphertext_is = ap (λ (s : Sealed). s.ciphertext) e

  pub tag_is : tag_of octets iv aad crypt ≡ tag
  unfolding sealed
  tag_is = sym (ap (tag_of octets iv aad) ciphertext_is) ∙ ap (λ (s : Sealed). s.tag) e

pub sealed_again : (octets : List ℕ) (iv : ℕ) (aad plain crypt tag : List ℕ) → encrypted (cipher_of octets) (nonce_of octets iv) plain ≡ crypt → tag_of octets iv aad crypt ≡ tag → sealed octets iv aad plain ≡ record { ciphertext = crypt; tag = tag }
unfolding sealed
sealed_again octets iv aad plain crypt tag c t =
    λ i. record { ciphertext = c i; tag = (ap (tag_of octets iv aad) c ∙ t) i }

length-sub_bytes : (s : List ℕ) → length (sub_bytes s) ≡ length s
unfolding sub_bytes
length-sub_bytes s = length-map s sub_byte

length-cond : (b : Bool) (xs ys : List ℕ) (n : ℕ) → length xs ≡ n → length ys ≡ n → length (cond b xs ys) ≡ n
length-cond true xs ys n first second = first
length-cond false xs ys n first second = second

length-first_word : (before : List ℕ) (j : ℕ) → length (xored (sub_bytes (rot_word before)) (round_constant j)) ≡ 4
unfolding rot_word round_constant
length-first_word before j =
    let four = length-sub_bytes (rot_word before) in
    length-xored (sub_bytes (rot_word before)) (round_constant j) (omega arith) ∙ four

length-changed : (nk i : ℕ) (before : List ℕ) → length before ≡ 4 → length (changed_word nk i before) ≡ 4
unfolding changed_word
length-changed nk i before h =
    let half = ltb 6 nk && eqb (i % nk) 4 in
    length-cond (eqb (i % nk) 0) (xored (sub_bytes (rot_word before)) (round_constant (i / nk))) (cond half (sub_bytes before) before) 4 (length-first_word before (i / nk)) (length-cond half (sub_bytes before) before 4 (length-sub_bytes before ∙ h) h)

length-word : (w : List ℕ) (i : ℕ) → 4 * i + 4 ≤ length w → length (word w i) ≡ 4
unfolding word
length-word w i h = omega (arith, length-take 4 (drop (4 * i) w), length-drop (4 * i) w)

length-expanded : (key : List ℕ) (nk n : ℕ) → 0 < nk → length key ≡ 4 * nk → length (expanded key nk n) ≡ 4 * (nk + n)
unfolding expanded
length-expanded key nk zero some h = omega arith
length-expanded key nk (suc n) some h =
    let w = expanded key nk n in
    let before = length-expanded key nk n some h in
    let first = length-word w n (omega arith) in
    let last = length-changed nk (n + nk) (word w (n + nk - 1)) (length-word w (n + nk - 1) (omega arith)) in
    omega (arith, length-append w (xored (word w n) (changed_word nk (n + nk) (word w (n + nk - 1)))), length-xored (word w n) (changed_word nk (n + nk) (word w (n + nk - 1))) (omega arith))

length-aes : (key block : List ℕ) → (length key ≡ 16) ⊎ (length key ≡ 32) → length (aes key block) ≡ 16
unfolding aes schedule
length-aes key block size =
    let nk = length key / 4 in
    let words = length-expanded key nk (4 * (nk + 7) - nk) (omega arith) (omega arith) in
    length-cipher (expanded key nk (4 * (nk + 7) - nk)) (nk + 5) block (omega arith)

length-cipher_of : (octets block : List ℕ) → HasKeySize octets → length (cipher_of octets block) ≡ 16
unfolding cipher_of
length-cipher_of octets block size =
    let part = length-take (length octets - 4) octets in
    length-aes (take (length octets - 4) octets) block (⊎_elim (λ h. inl (omega arith)) (λ h. inr (omega arith)) size)

pub sealing : (octets : List ℕ) → HasKeySize octets → IsSealing octets
unfolding sealed tag_of tag_under
sealing octets size =
    let each : (block : List ℕ) → length (cipher_of octets block) ≡ 16 = λ block. length-cipher_of octets block size in
    record {
      ciphertext_length = λ iv aad plain. length-encrypted (cipher_of octets) (nonce_of octets iv) plain (λ k. each (counter_block (nonce_of octets iv) k));
      tag_length = λ iv aad plain.
          let text = hashed_text aad (encrypted (cipher_of octets) (nonce_of octets iv) plain) in
          let first = each (counter_block (nonce_of octets iv) 1) in
          length-xored (cipher_of octets (counter_block (nonce_of octets iv) 1)) (to_be_bytes w128 (ghash (hash_subkey (cipher_of octets)) text)) (omega arith) ∙ first;
      injective = λ iv aad first second e.
          let f = cipher_of octets in
          let nonce = nonce_of octets iv in
          let blocks = λ (k : ℕ). each (counter_block nonce k) in
          sym (encrypted_twice f nonce first blocks) ∙ ap (λ (s : Sealed). encrypted f nonce s.ciphertext) e ∙ encrypted_twice f nonce second blocks;
    }
