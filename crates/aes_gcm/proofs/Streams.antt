-- Counter mode, block by block.
use Rattle.std.proofs.Common.{◌≡◌, ℕ, zero, suc, ◌+◌, ◌-◌, ◌*◌, ◌/◌, ◌<◌, ◌≤◌, List, ◌++◌, length, take, drop, refl, sym, ap, ◌∙◌, add-one, append_assoc, ⊎_elim, arith}
use Rattle.std.specs.Prelude.{min}
use Rattle.std.proofs.lemmas.List.{length-take, length-drop, length-append, take_min, drop-drop, take_all}
use Rattle.std.proofs.Math.Seq.{take-add}
use Rattle.std.proofs.lemmas.Slice.{take-put_mid, drop-put_mid}
use borrow.Rule.Slice.PartMut.{put_mid}
use Rattle.aes_gcm.specs.Aes.{xored}
use Rattle.aes_gcm.specs.Gcm.{key_stream, counter_block, encrypted, block_count}
use Rattle.std.proofs.lemmas.Bool.{cases_lt}
use Rattle.aes_gcm.proofs.Lists.{xored-append, xored_enough, length-xored, xored_twice}

pub stream_more : (f : List ℕ → List ℕ) (nonce : List ℕ) (i : ℕ) → key_stream f nonce (i + 1) ≡ key_stream f nonce i ++ f (counter_block nonce (i + 2))
unfolding key_stream
stream_more f nonce i = rw add-one

-- Two blocks more of the key stream are joined: xs is what the buffer held at first, now is what it holds,
-- m octets of it are enciphered, and e is the end of the next part.
module _ (xs now part ks pad : List ℕ) (m e : ℕ) (same : length now ≡ length xs) (end : e ≡ min (length xs) (m + 32)) (begun : m < length xs) (part_is : part ≡ xored (take (e - m) (drop m now)) pad) (two : length pad ≡ 32) (rest : drop m now ≡ drop m xs) where
  length-part : length part ≡ e - m
  length-part =
      let width : length (take (e - m) (drop m now)) ≡ e - m = omega (arith, length-take (e - m) (drop m now), length-drop m now) in
      ap length part_is ∙ length-xored (take (e - m) (drop m now)) pad (omega arith) ∙ width

  pub length_held : length (put_mid m (e - m) now part) ≡ length xs
  length_held =
      simp (length-append, length-drop, length-take) (omega (arith, length-part))

  pub streamed_rest : drop (m + 32) (put_mid m (e - m) now part) ≡ drop (m + 32) xs
  streamed_rest =
      drop-put_mid m (e - m) now part (m + 32) (omega arith) (omega arith) length-part
      ∙ sym (drop-drop 32 m now) ∙ ap (drop 32) rest ∙ drop-drop 32 m xs

  pub streamed_step : take m now ≡ xored (take m xs) ks → length ks ≡ m → take (m + 32) (put_mid m (e - m) now part) ≡ xored (take (m + 32) xs) (ks ++ pad)
  streamed_step sofar long =
      let k = e - m in
      let held = put_mid m (e - m) now part in
      let cut : min (m + 32) (length held) ≡ e = omega (arith, length_held) in
      let cut_text : min (m + 32) (length xs) ≡ e = omega arith in
      let there = sym (take_min (m + 32) held) ∙ ap (λ n. take n held) cut in
      let text_there = sym (take_min (m + 32) xs) ∙ ap (λ n. take n xs) cut_text in
      let whole : e ≡ m + k = omega arith in
      let text = text_there ∙ ap (λ n. take n xs) whole ∙ take-add m k xs in
      let front : length (take m xs) ≡ length ks = omega (arith, length-take m xs) in
      let right = ap (λ t. xored t (ks ++ pad)) text ∙ xored-append (take m xs) (take k (drop m xs)) ks pad front in
      let mid = part_is ∙ ap (λ ys. xored (take k ys) pad) rest in
      there ∙ take-put_mid m k now part e (omega (arith, length-part)) (omega arith) ∙ (λ j. sofar j ++ mid j) ∙ sym right

-- two blocks more of the key stream
pub two_more : (f : List ℕ → List ℕ) (nonce : List ℕ) (i : ℕ) → key_stream f nonce (2 * i) ++ (f (counter_block nonce (2 * i + 2)) ++ f (counter_block nonce (2 * i + 3))) ≡ key_stream f nonce (2 * (i + 1))
two_more f nonce i =
    let next : 2 * (i + 1) ≡ 2 * i + 1 + 1 = omega arith in
    let last : 2 * i + 1 + 2 ≡ 2 * i + 3 = omega arith in
    sym (ap (key_stream f nonce) next ∙ stream_more f nonce (2 * i + 1) ∙ (λ j. stream_more f nonce (2 * i) j ++ f (counter_block nonce (last j))) ∙ append_assoc (key_stream f nonce (2 * i)) (f (counter_block nonce (2 * i + 2))) (f (counter_block nonce (2 * i + 3))))

pub length-key_stream : (f : List ℕ → List ℕ) (nonce : List ℕ) → ((k : ℕ) → length (f (counter_block nonce k)) ≡ 16) → (n : ℕ) → length (key_stream f nonce n) ≡ 16 * n
unfolding key_stream
length-key_stream f nonce each zero = refl
length-key_stream f nonce each (suc n) =
    length-append (key_stream f nonce n) (f (counter_block nonce (n + 2))) ∙ omega (arith, length-key_stream f nonce each n, each (n + 2))

-- all of a text is enciphered, with a block of the key stream to spare or none
pub streamed_all : (f : List ℕ → List ℕ) (nonce xs now : List ℕ) (m : ℕ) → ((k : ℕ) → length (f (counter_block nonce k)) ≡ 16) → m ≡ (length xs + 31) / 32 → length now ≡ length xs → take (32 * m) now ≡ xored (take (32 * m) xs) (key_stream f nonce (2 * m)) → now ≡ encrypted f nonce xs
unfolding encrypted block_count
streamed_all f nonce xs now m each e same sofar =
    let n = (length xs + 15) / 16 in
    let text = take_all (32 * m) xs (omega arith) in
    let long = length-key_stream f nonce each n in
    let needed : xored xs (key_stream f nonce (2 * m)) ≡ xored xs (key_stream f nonce n) = ⊎_elim (λ h.
    let more : 2 * m ≡ n + 1 = omega arith in
    ap (xored xs) (ap (key_stream f nonce) more ∙ stream_more f nonce n) ∙ xored_enough xs (key_stream f nonce n) (f (counter_block nonce (n + 2))) (omega arith)) (λ h.
    let all : 2 * m ≡ n = omega arith in
    ap (λ k. xored xs (key_stream f nonce k)) all) (cases_lt n (2 * m)) in
    sym (take_all (32 * m) now (omega arith)) ∙ sofar ∙ ap (λ t. xored t (key_stream f nonce (2 * m))) text ∙ needed

pub length-encrypted : (f : List ℕ → List ℕ) (nonce xs : List ℕ) → ((k : ℕ) → length (f (counter_block nonce k)) ≡ 16) → length (encrypted f nonce xs) ≡ length xs
unfolding encrypted block_count
length-encrypted f nonce xs each =
    length-xored xs (key_stream f nonce ((length xs + 15) / 16)) (omega (arith, length-key_stream f nonce each ((length xs + 15) / 16)))

-- counter mode is its own inverse
pub encrypted_twice : (f : List ℕ → List ℕ) (nonce xs : List ℕ) → ((k : ℕ) → length (f (counter_block nonce k)) ≡ 16) → encrypted f nonce (encrypted f nonce xs) ≡ xs
unfolding encrypted block_count
encrypted_twice f nonce xs each =
    let stream = key_stream f nonce ((length xs + 15) / 16) in
    let long : length xs ≤ length stream = omega (arith, length-key_stream f nonce each ((length xs + 15) / 16)) in
    rw (length-xored xs stream long) (xored_twice xs stream long)
