-- The first round over counter blocks, most of it done once.
use Rattle.std.proofs.Common.{◌≡◌, ℕ, ◌/◌, ◌%◌, ◌^◌, ◌<◌, ◌≤◌, List, [], ◌∷◌, ◌++◌, length, get_or, sym, ap, ◌∙◌, arith}
use Rattle.std.specs.Prelude.{slice_index}
use Rattle.std.specs.Int.{w32, to_be_bytes}
use Rattle.std.specs.Int.Bits.{bit_xor, xor_assoc, xor_zero_r}
use Rattle.std.proofs.lemmas.Nat.{xor_comm}
use Rattle.aes_gcm.specs.Aes.{times, sub_byte, sub_bytes, shift_rows, mix_column, mix_columns, round_key, rounds, word, xored}
use Rattle.aes_gcm.specs.Columns.{from_last_octets, from_row_2, from_row_3}
use Rattle.aes_gcm.specs.Gcm.{counter_block}
use Rattle.aes_gcm.proofs.Lists.{xor_twice}
use Rattle.aes_gcm.proofs.WordRounds.{spelled, word_places, round_key_words}

swap_last : (a b c : ℕ) → bit_xor (bit_xor a b) c ≡ bit_xor (bit_xor a c) b
swap_last a b c = xor_assoc a b c ∙ ap (bit_xor a) (xor_comm b c) ∙ sym (xor_assoc a c b)

-- a term d of a sum is taken back, and e comes in its place
toggled_last : (m d k e : ℕ) → bit_xor (bit_xor (bit_xor (bit_xor m d) k) d) e ≡ bit_xor (bit_xor m e) k
toggled_last m d k e =
    ap (λ z. bit_xor (bit_xor z d) e) (swap_last m d k) ∙ ap (λ z. bit_xor z e) (xor_twice (bit_xor m k) d) ∙ swap_last m k e

toggled_third : (m c d k e : ℕ) → bit_xor (bit_xor (bit_xor (bit_xor (bit_xor m c) d) k) c) e ≡ bit_xor (bit_xor (bit_xor m e) d) k
toggled_third m c d k e =
    ap (λ z. bit_xor (bit_xor (bit_xor z k) c) e) (swap_last m c d) ∙ toggled_last (bit_xor m d) c k e ∙ ap (λ z. bit_xor z k) (swap_last m d e)

with_zeros : (z : ℕ) → bit_xor (bit_xor z 0) 0 ≡ z
with_zeros z = xor_zero_r (bit_xor z 0) ∙ xor_zero_r z

-- two states that differ in the octets 14 and 15
toggled_state : (a0 a1 a2 a3 a4 a5 a6 a7 a8 a9 a10 a11 a12 a13 x y u v k0 k1 k2 k3 k4 k5 k6 k7 k8 k9 k10 k11 k12 k13 k14 k15 : ℕ) → xored (xored (xored (mix_columns (shift_rows (sub_bytes (a0 ∷ a1 ∷ a2 ∷ a3 ∷ a4 ∷ a5 ∷ a6 ∷ a7 ∷ a8 ∷ a9 ∷ a10 ∷ a11 ∷ a12 ∷ a13 ∷ x ∷ y ∷ [])))) (k0 ∷ k1 ∷ k2 ∷ k3 ∷ k4 ∷ k5 ∷ k6 ∷ k7 ∷ k8 ∷ k9 ∷ k10 ∷ k11 ∷ k12 ∷ k13 ∷ k14 ∷ k15 ∷ [])) (from_last_octets x y)) (from_last_octets u v) ≡ xored (mix_columns (shift_rows (sub_bytes (a0 ∷ a1 ∷ a2 ∷ a3 ∷ a4 ∷ a5 ∷ a6 ∷ a7 ∷ a8 ∷ a9 ∷ a10 ∷ a11 ∷ a12 ∷ a13 ∷ u ∷ v ∷ [])))) (k0 ∷ k1 ∷ k2 ∷ k3 ∷ k4 ∷ k5 ∷ k6 ∷ k7 ∷ k8 ∷ k9 ∷ k10 ∷ k11 ∷ k12 ∷ k13 ∷ k14 ∷ k15 ∷ [])
unfolding xored mix_columns mix_column shift_rows sub_bytes from_last_octets from_row_2 from_row_3
toggled_state a0 a1 a2 a3 a4 a5 a6 a7 a8 a9 a10 a11 a12 a13 x y u v k0 k1 k2 k3 k4 k5 k6 k7 k8 k9 k10 k11 k12 k13 k14 k15 =
    λ i. toggled_last (bit_xor (bit_xor (times 2 (sub_byte a0)) (times 3 (sub_byte a5))) (sub_byte a10)) (sub_byte y) k0 (sub_byte v) i
    ∷ toggled_last (bit_xor (bit_xor (sub_byte a0) (times 2 (sub_byte a5))) (times 3 (sub_byte a10))) (sub_byte y) k1 (sub_byte v) i
    ∷ toggled_last (bit_xor (bit_xor (sub_byte a0) (sub_byte a5)) (times 2 (sub_byte a10))) (times 3 (sub_byte y)) k2 (times 3 (sub_byte v)) i
    ∷ toggled_last (bit_xor (bit_xor (times 3 (sub_byte a0)) (sub_byte a5)) (sub_byte a10)) (times 2 (sub_byte y)) k3 (times 2 (sub_byte v)) i
    ∷ toggled_third (bit_xor (times 2 (sub_byte a4)) (times 3 (sub_byte a9))) (sub_byte x) (sub_byte a3) k4 (sub_byte u) i
    ∷ toggled_third (bit_xor (sub_byte a4) (times 2 (sub_byte a9))) (times 3 (sub_byte x)) (sub_byte a3) k5 (times 3 (sub_byte u)) i
    ∷ toggled_third (bit_xor (sub_byte a4) (sub_byte a9)) (times 2 (sub_byte x)) (times 3 (sub_byte a3)) k6 (times 2 (sub_byte u)) i
    ∷ toggled_third (bit_xor (times 3 (sub_byte a4)) (sub_byte a9)) (sub_byte x) (times 2 (sub_byte a3)) k7 (sub_byte u) i
    ∷ with_zeros (bit_xor (bit_xor (bit_xor (bit_xor (times 2 (sub_byte a8)) (times 3 (sub_byte a13))) (sub_byte a2)) (sub_byte a7)) k8) i
    ∷ with_zeros (bit_xor (bit_xor (bit_xor (bit_xor (sub_byte a8) (times 2 (sub_byte a13))) (times 3 (sub_byte a2))) (sub_byte a7)) k9) i
    ∷ with_zeros (bit_xor (bit_xor (bit_xor (bit_xor (sub_byte a8) (sub_byte a13)) (times 2 (sub_byte a2))) (times 3 (sub_byte a7))) k10) i
    ∷ with_zeros (bit_xor (bit_xor (bit_xor (bit_xor (times 3 (sub_byte a8)) (sub_byte a13)) (sub_byte a2)) (times 2 (sub_byte a7))) k11) i
    ∷ with_zeros (bit_xor (bit_xor (bit_xor (bit_xor (times 2 (sub_byte a12)) (times 3 (sub_byte a1))) (sub_byte a6)) (sub_byte a11)) k12) i
    ∷ with_zeros (bit_xor (bit_xor (bit_xor (bit_xor (sub_byte a12) (times 2 (sub_byte a1))) (times 3 (sub_byte a6))) (sub_byte a11)) k13) i
    ∷ with_zeros (bit_xor (bit_xor (bit_xor (bit_xor (sub_byte a12) (sub_byte a1)) (times 2 (sub_byte a6))) (times 3 (sub_byte a11))) k14) i
    ∷ with_zeros (bit_xor (bit_xor (bit_xor (bit_xor (times 3 (sub_byte a12)) (sub_byte a1)) (sub_byte a6)) (times 2 (sub_byte a11))) k15) i ∷ []

first_key : (w : List ℕ) → 240 ≤ length w → ((get_or w 0 0) ∷ (get_or w 1 0) ∷ (get_or w 2 0) ∷ (get_or w 3 0) ∷ (get_or w 4 0) ∷ (get_or w 5 0) ∷ (get_or w 6 0) ∷ (get_or w 7 0) ∷ (get_or w 8 0) ∷ (get_or w 9 0) ∷ (get_or w 10 0) ∷ (get_or w 11 0) ∷ (get_or w 12 0) ∷ (get_or w 13 0) ∷ (get_or w 14 0) ∷ (get_or w 15 0) ∷ []) ≡ round_key w 0
first_key w h =
    (λ i. word_places w 0 (omega arith) i ++ word_places w 1 (omega arith) i ++ word_places w 2 (omega arith) i ++ word_places w 3 (omega arith) i) ∙ round_key_words w 0

second_key : (w : List ℕ) → 240 ≤ length w → ((get_or w 16 0) ∷ (get_or w 17 0) ∷ (get_or w 18 0) ∷ (get_or w 19 0) ∷ (get_or w 20 0) ∷ (get_or w 21 0) ∷ (get_or w 22 0) ∷ (get_or w 23 0) ∷ (get_or w 24 0) ∷ (get_or w 25 0) ∷ (get_or w 26 0) ∷ (get_or w 27 0) ∷ (get_or w 28 0) ∷ (get_or w 29 0) ∷ (get_or w 30 0) ∷ (get_or w 31 0) ∷ []) ≡ round_key w 1
second_key w h =
    (λ i. word_places w 4 (omega arith) i ++ word_places w 5 (omega arith) i ++ word_places w 6 (omega arith) i ++ word_places w 7 (omega arith) i) ∙ round_key_words w 1

pub begun_is : (w nonce begun : List ℕ) → length w ≡ 240 → length nonce ≡ 12 → begun ≡ xored (xored (mix_columns (shift_rows (sub_bytes (xored (counter_block nonce 0) (round_key w 0))))) (round_key w 1)) (from_last_octets (slice_index (xored (to_be_bytes w32 0) (word w 3)) 2) (slice_index (xored (to_be_bytes w32 0) (word w 3)) 3)) → (k : ℕ) → k < 2 ^ 16 → xored begun (from_last_octets (slice_index (xored (to_be_bytes w32 k) (word w 3)) 2) (slice_index (xored (to_be_bytes w32 k) (word w 3)) 3)) ≡ rounds w (counter_block nonce k) 1
unfolding rounds counter_block xored
begun_is w nonce begun long twelve made k small =
    let high : k / 2 ^ 24 % 256 ≡ 0 = omega arith in
    let next : k / 2 ^ 16 % 256 ≡ 0 = omega arith in
    let zero_key = sym (first_key w (omega arith)) in
    let one_key = sym (second_key w (omega arith)) in
    let last = sym (word_places w 3 (omega arith)) in
    let octets = spelled 12 nonce twelve in
    ap (λ t. xored t (from_last_octets (slice_index (xored (to_be_bytes w32 k) (word w 3)) 2) (slice_index (xored (to_be_bytes w32 k) (word w 3)) 3))) made
    ∙ (λ i. xored (xored (xored (mix_columns (shift_rows (sub_bytes (xored (octets i ++ to_be_bytes w32 0) (zero_key i))))) (one_key i)) (from_last_octets (slice_index (xored (to_be_bytes w32 0) (last i)) 2) (slice_index (xored (to_be_bytes w32 0) (last i)) 3))) (from_last_octets (slice_index (xored (to_be_bytes w32 k) (last i)) 2) (slice_index (xored (to_be_bytes w32 k) (last i)) 3)))
    ∙ toggled_state (bit_xor (get_or nonce 0 0) (get_or w 0 0)) (bit_xor (get_or nonce 1 0) (get_or w 1 0)) (bit_xor (get_or nonce 2 0) (get_or w 2 0)) (bit_xor (get_or nonce 3 0) (get_or w 3 0)) (bit_xor (get_or nonce 4 0) (get_or w 4 0)) (bit_xor (get_or nonce 5 0) (get_or w 5 0)) (bit_xor (get_or nonce 6 0) (get_or w 6 0)) (bit_xor (get_or nonce 7 0) (get_or w 7 0)) (bit_xor (get_or nonce 8 0) (get_or w 8 0)) (bit_xor (get_or nonce 9 0) (get_or w 9 0)) (bit_xor (get_or nonce 10 0) (get_or w 10 0)) (bit_xor (get_or nonce 11 0) (get_or w 11 0)) (bit_xor 0 (get_or w 12 0)) (bit_xor 0 (get_or w 13 0)) (bit_xor 0 (get_or w 14 0)) (bit_xor 0 (get_or w 15 0)) (bit_xor (k / 2 ^ 8 % 256) (get_or w 14 0)) (bit_xor (k % 256) (get_or w 15 0)) (get_or w 16 0) (get_or w 17 0) (get_or w 18 0) (get_or w 19 0) (get_or w 20 0) (get_or w 21 0) (get_or w 22 0) (get_or w 23 0) (get_or w 24 0) (get_or w 25 0) (get_or w 26 0) (get_or w 27 0) (get_or w 28 0) (get_or w 29 0) (get_or w 30 0) (get_or w 31 0)
    ∙ (λ i. xored (mix_columns (shift_rows (sub_bytes ((bit_xor (get_or nonce 0 0) (get_or w 0 0)) ∷ (bit_xor (get_or nonce 1 0) (get_or w 1 0)) ∷ (bit_xor (get_or nonce 2 0) (get_or w 2 0)) ∷ (bit_xor (get_or nonce 3 0) (get_or w 3 0)) ∷ (bit_xor (get_or nonce 4 0) (get_or w 4 0)) ∷ (bit_xor (get_or nonce 5 0) (get_or w 5 0)) ∷ (bit_xor (get_or nonce 6 0) (get_or w 6 0)) ∷ (bit_xor (get_or nonce 7 0) (get_or w 7 0)) ∷ (bit_xor (get_or nonce 8 0) (get_or w 8 0)) ∷ (bit_xor (get_or nonce 9 0) (get_or w 9 0)) ∷ (bit_xor (get_or nonce 10 0) (get_or w 10 0)) ∷ (bit_xor (get_or nonce 11 0) (get_or w 11 0)) ∷ (bit_xor (sym high i) (get_or w 12 0)) ∷ (bit_xor (sym next i) (get_or w 13 0)) ∷ (bit_xor (k / 2 ^ 8 % 256) (get_or w 14 0)) ∷ (bit_xor (k % 256) (get_or w 15 0)) ∷ [])))) ((get_or w 16 0) ∷ (get_or w 17 0) ∷ (get_or w 18 0) ∷ (get_or w 19 0) ∷ (get_or w 20 0) ∷ (get_or w 21 0) ∷ (get_or w 22 0) ∷ (get_or w 23 0) ∷ (get_or w 24 0) ∷ (get_or w 25 0) ∷ (get_or w 26 0) ∷ (get_or w 27 0) ∷ (get_or w 28 0) ∷ (get_or w 29 0) ∷ (get_or w 30 0) ∷ (get_or w 31 0) ∷ []))
    ∙ (λ i. xored (mix_columns (shift_rows (sub_bytes (xored (sym octets i ++ to_be_bytes w32 k) (sym zero_key i))))) (sym one_key i))
