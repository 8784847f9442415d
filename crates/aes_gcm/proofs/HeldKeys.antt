-- A key as it is held, and as contracts see it.
use Rattle.std.proofs.Common.{◌≡◌, ℕ, zero, suc, ◌+◌, ◌-◌, ◌*◌, ◌/◌, ◌<◌, ◌≤◌, ◌⊎◌, ⊎_elim, inl, inr, List, ◌++◌, length, take, drop, refl, sym, ap, ◌∙◌, arith}
use Rattle.std.proofs.lemmas.List.{length-append, length-take, length-drop, take_at, drop_at, take-take, drop-take}
use Rattle.ha_base.specs.KeySizes.{HasKeySize}
use Rattle.aes_gcm.specs.Aes.{xored, mix_columns, shift_rows, sub_bytes, rounds, round_key, schedule, cipher, aes}
use Rattle.std.specs.Int.{w64, to_be_bytes}
use Rattle.aes_gcm.specs.declared.Key.TheInside.{Inside}
use Rattle.aes_gcm.specs.NamedKey.{NamedKey}
use Rattle.aes_gcm.specs.HeldKey.{key_in, named_key, IsHeldKey}
use Rattle.aes_gcm.specs.Gcm.{cipher_of, nonce_of}
use Rattle.aes_gcm.proofs.Lists.{length-xored}
use Rattle.aes_gcm.proofs.Schedules.{begins}

-- the octets of a key and its salt, apart
module _ (key salt : List ℕ) (four : length salt ≡ 4) where
  before : length (key ++ salt) - 4 ≡ length key
  before = omega (arith, length-append key salt)

  pub key_part : take (length (key ++ salt) - 4) (key ++ salt) ≡ key
  key_part = rw before (take_at key salt (length key) refl)

  pub salt_part : drop (length (key ++ salt) - 4) (key ++ salt) ≡ salt
  salt_part = rw before (drop_at key salt (length key) refl)

  pub cipher_of_parts : aes key ≡ cipher_of (key ++ salt)
  unfolding cipher_of
  cipher_of_parts = λ i block. aes (sym key_part i) block

length-round_key : (w : List ℕ) (r : ℕ) → 16 * r + 16 ≤ length w → length (round_key w r) ≡ 16
unfolding round_key
length-round_key w r h = omega (arith, length-take 16 (drop (16 * r) w), length-drop (16 * r) w)

length-shift_rows : (s : List ℕ) → length (shift_rows s) ≡ 16
unfolding shift_rows
length-shift_rows s = refl

pub length-cipher : (w : List ℕ) (n : ℕ) (s : List ℕ) → 16 * (n + 1) + 16 ≤ length w → length (cipher w n s) ≡ 16
unfolding cipher
length-cipher w n s h =
    let key = length-round_key w (n + 1) h in
    let state = length-shift_rows (sub_bytes (rounds w s n)) in
    length-xored (shift_rows (sub_bytes (rounds w s n))) (round_key w (n + 1)) (omega arith) ∙ state

-- a round key of a list that goes on after it
round_key-take : (w : List ℕ) (m r : ℕ) → r < m → round_key (take (16 * m) w) r ≡ round_key w r
unfolding round_key
round_key-take w m r h =
    let split : 16 * m ≡ 16 * r + (16 * m - 16 * r) = omega arith in
    rw split (rw (drop-take (16 * r) (16 * m - 16 * r) w) (take-take 16 (16 * m - 16 * r) (drop (16 * r) w) (omega arith)))

rounds-take : (w : List ℕ) (m : ℕ) (s : List ℕ) (r : ℕ) → r < m → rounds (take (16 * m) w) s r ≡ rounds w s r
unfolding rounds
rounds-take w m s zero h = ap (xored s) (round_key-take w m 0 h)
rounds-take w m s (suc r) h =
    let state = rounds-take w m s r (omega arith) in
    let key = round_key-take w m (suc r) h in
    λ i. xored (mix_columns (shift_rows (sub_bytes (state i)))) (key i)

cipher-take : (w : List ℕ) (m n : ℕ) → n + 1 < m → cipher (take (16 * m) w) n ≡ cipher w n
unfolding cipher
cipher-take w m n h =
    λ i s. xored (shift_rows (sub_bytes (rounds-take w m s n (omega arith) i))) (round_key-take w m (n + 1) h i)

-- round keys that are those of a key
module _ (key w : List ℕ) (size : (length key ≡ 16) ⊎ (length key ≡ 32)) (held : take (16 * (length key / 4 + 7)) w ≡ schedule key) where
  pub key_is : take (4 * (length key / 4 + 5 - 5)) w ≡ key
  unfolding schedule
  key_is =
      let octets : 4 * (length key / 4 + 5 - 5) ≡ length key = omega arith in
      rw octets (sym (take-take (length key) (16 * (length key / 4 + 7)) w (omega arith)) ∙ ap (take (length key)) held ∙ begins key (length key / 4) (4 * (length key / 4 + 7) - length key / 4))

  pub cipher_is : cipher w (length key / 4 + 5) ≡ aes key
  unfolding aes
  cipher_is =
      sym (cipher-take w (length key / 4 + 7) (length key / 4 + 5) (omega arith)) ∙ ap (λ ks. cipher ks (length key / 4 + 5)) held

-- a key that is seen as v
module _ (k : Inside) (v : NamedKey) (seen : named_key k ≡ v) (salted : length k.salt ≡ 4) (held : IsHeldKey k) where
  pub under_is : cipher k.round_keys k.middle_rounds ≡ cipher_of v.octets
  under_is =
      held.1 ∙ cipher_of_parts (key_in k.middle_rounds k.round_keys) k.salt salted ∙ ap (λ (u : NamedKey). cipher_of u.octets) seen

  pub nonce_is : (iv : ℕ) → k.salt ++ to_be_bytes w64 iv ≡ nonce_of v.octets iv
  unfolding nonce_of
  nonce_is iv =
      ap (λ salt. salt ++ to_be_bytes w64 iv) (sym (salt_part (key_in k.middle_rounds k.round_keys) k.salt salted)) ∙ ap (λ (u : NamedKey). nonce_of u.octets iv) seen

  pub size_is : length k.round_keys ≡ 240 → HasKeySize v.octets
  size_is long =
      let octets = sym (ap (λ (u : NamedKey). length u.octets) seen) ∙ length-append (key_in k.middle_rounds k.round_keys) k.salt in
      ⊎_elim (λ few. inl (omega (arith, octets, length-take (4 * (k.middle_rounds - 5)) k.round_keys))) (λ many. inr (omega (arith, octets, length-take (4 * (k.middle_rounds - 5)) k.round_keys))) held.0

  pub length-under : length k.round_keys ≡ 240 → (s : List ℕ) → length (cipher_of v.octets s) ≡ 16
  length-under long s =
      let few = held.0 in
      sym (ap (λ f. length (f s)) under_is) ∙ length-cipher k.round_keys k.middle_rounds s (omega arith)
