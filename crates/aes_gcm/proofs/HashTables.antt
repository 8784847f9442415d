-- GHASH's product by tables: four bits of eight windows at once.
use Rattle.std.proofs.Common.{◌≡◌, ℕ, zero, suc, ◌+◌, ◌-◌, ◌*◌, ◌/◌, ◌%◌, ◌^◌, ◌<◌, ◌≤◌, List, map, get_or, ⊎_elim, refl, sym, ap, ◌∙◌, add-zero, add-suc, arith}
use Rattle.std.specs.Prelude.{slice_index}
use Rattle.std.specs.List.{range_with_len}
use Rattle.std.proofs.lemmas.Bool.{cases_lt}
use Rattle.std.proofs.lemmas.Nat.{shr-shr, shr_split, xor_shr, xor_mod, xor_comm}
use Rattle.std.proofs.lemmas.List.FromFn.{get_or-map-range_with_len}
use Rattle.std.specs.Int.Bits.{bit_xor, xor_assoc, xor_zero_l, xor_zero_r, xor_shifted}
use Rattle.std.proofs.Math.Nat.{one-mul, zero-mul}
use Rattle.aes_gcm.specs.declared.ghash.TheConstants.{REDUCED}
use Rattle.aes_gcm.specs.Gcm.{next_power, product_low, product}
use Rattle.aes_gcm.specs.HashTables.{times_power, windows, IsHashTable}

xor_middle : (a b c d : ℕ) → bit_xor (bit_xor a b) (bit_xor c d) ≡ bit_xor (bit_xor a c) (bit_xor b d)
xor_middle a b c d =
    xor_assoc a b (bit_xor c d) ∙ ap (bit_xor a) (sym (xor_assoc b c d) ∙ ap (λ t. bit_xor t d) (xor_comm b c) ∙ xor_assoc c b d) ∙ sym (xor_assoc a c (bit_xor b d))

-- a bit times a sum, at the field's reduction
bit_of_sum : (p q : ℕ) → p < 2 → q < 2 → bit_xor p q * (0xe1 * 2 ^ 120) ≡ bit_xor (p * (0xe1 * 2 ^ 120)) (q * (0xe1 * 2 ^ 120))
bit_of_sum p q p2 q2 =
    ⊎_elim (λ h. let e : p ≡ 0 = omega arith in rw e (rw (xor_zero_l q, xor_zero_l (q * (0xe1 * 2 ^ 120))))) (λ h.
    let e : p ≡ 1 = omega arith in
    rw e (⊎_elim (λ k. let f : q ≡ 0 = omega arith in rw f) (λ k. let f : q ≡ 1 = omega arith in rw f) (cases_lt q 1))) (cases_lt p 1)

next_of_xor : (a b : ℕ) → next_power (bit_xor a b) ≡ bit_xor (next_power a) (next_power b)
unfolding next_power
next_of_xor a b =
    let low = ap (λ z. z * (0xe1 * 2 ^ 120)) (xor_mod a b 1) ∙ bit_of_sum (a % 2) (b % 2) (omega arith) (omega arith) in
    (λ i. bit_xor (xor_shr a b 1 i) (low i)) ∙ xor_middle (a / 2) (b / 2) (a % 2 * (0xe1 * 2 ^ 120)) (b % 2 * (0xe1 * 2 ^ 120))

raised_of_xor : (n a b : ℕ) → times_power n (bit_xor a b) ≡ bit_xor (times_power n a) (times_power n b)
unfolding times_power
raised_of_xor zero a b = refl
raised_of_xor (suc n) a b = ap next_power (raised_of_xor n a b) ∙ next_of_xor (times_power n a) (times_power n b)

raised_next : (n v : ℕ) → times_power n (next_power v) ≡ next_power (times_power n v)
unfolding times_power
raised_next zero v = refl
raised_next (suc n) v = ap next_power (raised_next n v)

pub raised_again : (m n v : ℕ) → times_power m (times_power n v) ≡ times_power (n + m) v
unfolding times_power
raised_again zero n v = rw add-zero
raised_again (suc m) n v = rw add-suc (ap next_power (raised_again m n v))

raised_none : (n : ℕ) → times_power n 0 ≡ 0
unfolding times_power next_power
raised_none zero = refl
raised_none (suc n) = ap next_power (raised_none n)

raised_bit : (n p v : ℕ) → p < 2 → times_power n (p * v) ≡ p * times_power n v
raised_bit n p v p2 =
    ⊎_elim (λ h. let e : p ≡ 0 = omega arith in rw (e, zero-mul v, zero-mul (times_power n v)) (raised_none n)) (λ h.
    let e : p ≡ 1 = omega arith in
    rw (e, one-mul v, one-mul (times_power n v))) (cases_lt p 1)

-- a product with x ^ k times v
raised_product : (k n a v : ℕ) → times_power k (product_low n a v) ≡ product_low n a (times_power k v)
unfolding product_low
raised_product k zero a v = raised_none k
raised_product k (suc n) a v =
    raised_of_xor k (a / 2 ^ n % 2 * v) (product_low n a (next_power v))
    ∙ (λ i. bit_xor (raised_bit k (a / 2 ^ n % 2) v (omega arith) i) ((raised_product k n a (next_power v) ∙ ap (product_low n a) (raised_next k v)) i))

-- the product with m + n bits, the highest n of them apart
product_parts : (m n a v : ℕ) → product_low (m + n) a v ≡ bit_xor (product_low n (a / 2 ^ m) v) (product_low m a (times_power n v))
unfolding product_low times_power
product_parts m zero a v = rw add-zero (sym (xor_zero_l (product_low m a v)))
product_parts m (suc n) a v =
    rw add-suc ((λ i. bit_xor (sym (ap (λ z. z % 2 * v) (shr-shr a m n)) i) ((product_parts m n a (next_power v) ∙ ap (λ z. bit_xor (product_low n (a / 2 ^ m) (next_power v)) (product_low m a z)) (raised_next n v)) i)) ∙ sym (xor_assoc (a / 2 ^ m / 2 ^ n % 2 * v) (product_low n (a / 2 ^ m) (next_power v)) (product_low m a (next_power (times_power n v)))))

next_of_double : (q : ℕ) → next_power (q * 2) ≡ q
unfolding next_power
next_of_double q =
    let half : q * 2 / 2 ≡ q = omega arith in
    let even : q * 2 % 2 ≡ 0 = omega arith in
    rw (half, even) (xor_zero_r q)

raised_of_sixteen : (q : ℕ) → times_power 4 (q * 16) ≡ q
unfolding times_power
raised_of_sixteen q =
    let first : q * 16 ≡ q * 2 * 2 * 2 * 2 = omega arith in
    ap (λ z. next_power (next_power (next_power (next_power z)))) first
    ∙ ap (λ z. next_power (next_power (next_power z))) (next_of_double (q * 2 * 2 * 2))
    ∙ ap (λ z. next_power (next_power z)) (next_of_double (q * 2 * 2))
    ∙ ap next_power (next_of_double (q * 2))
    ∙ next_of_double q

reduced_all : map (λ r. get_or REDUCED r 0 * 2 ^ 112 % 2 ^ 128) (range_with_len 0 16) ≡ map (times_power 4) (range_with_len 0 16)
unfolding times_power next_power
reduced_all = refl

reduced_is : (r : ℕ) → r < 16 → get_or REDUCED r 0 * 2 ^ 112 % 2 ^ 128 ≡ times_power 4 r
reduced_is r h =
    sym (get_or-map-range_with_len (λ r. get_or REDUCED r 0 * 2 ^ 112 % 2 ^ 128) 0 16 r r 0 h (omega arith)) ∙ ap (λ xs. get_or xs r 0) reduced_all ∙ get_or-map-range_with_len (times_power 4) 0 16 r r 0 h (omega arith)

pub times_x4_is : (z : ℕ) → bit_xor (z / 16) (get_or REDUCED (z % 16) 0 * 2 ^ 112 % 2 ^ 128) ≡ times_power 4 z
times_x4_is z =
    let split : bit_xor (z / 16 * 16) (z % 16) ≡ z = xor_shifted (z / 16) 4 (z % 16) (omega arith) ∙ shr_split z 4 in
    (λ i. bit_xor (sym (raised_of_sixteen (z / 16)) i) (reduced_is (z % 16) (omega arith) i)) ∙ sym (raised_of_xor 4 (z / 16 * 16) (z % 16)) ∙ ap (times_power 4) split

-- four bits, written out
pub four_bits : (k v : ℕ) → bit_xor (bit_xor (bit_xor (k / 8 % 2 * v) (k / 4 % 2 * next_power v)) (k / 2 % 2 * next_power (next_power v))) (k % 2 * next_power (next_power (next_power v))) ≡ product_low 4 k v
unfolding product_low
four_bits k v =
    let last : k / 1 ≡ k = omega arith in
    let a = k / 8 % 2 * v in
    let b = k / 4 % 2 * next_power v in
    let c = k / 2 % 2 * next_power (next_power v) in
    let d = k % 2 * next_power (next_power (next_power v)) in
    rw last (xor_assoc (bit_xor a b) c d ∙ xor_assoc a b (bit_xor c d) ∙ ap (λ z. bit_xor a (bit_xor b (bit_xor c z))) (sym (xor_zero_r d)))

lowest_four : (k v : ℕ) → product_low 4 (k % 16) v ≡ product_low 4 k v
unfolding product_low
lowest_four k v =
    let at_8 : k % 16 / 8 % 2 ≡ k / 8 % 2 = omega arith in
    let at_4 : k % 16 / 4 % 2 ≡ k / 4 % 2 = omega arith in
    let at_2 : k % 16 / 2 % 2 ≡ k / 2 % 2 = omega arith in
    let at_1 : k % 16 / 1 % 2 ≡ k / 1 % 2 = omega arith in
    rw (at_8, at_4, at_2, at_1)

-- four bits more of each window
pub windows_more : (n m a v : ℕ) → bit_xor (times_power 4 (windows n m a v)) (windows n 4 (a / 2 ^ m) v) ≡ windows n (m + 4) a v
unfolding windows
windows_more zero m a v = rw (raised_none 4)
windows_more (suc n) m a v =
    let w = a / 2 ^ (112 - 16 * n) in
    let p = times_power (16 * n) v in
    let moved : a / 2 ^ m / 2 ^ (112 - 16 * n) ≡ w / 2 ^ m = shr-shr a m (112 - 16 * n) ∙ ap (λ k. a / 2 ^ k) (omega arith) ∙ sym (shr-shr a (112 - 16 * n) m) in
    let here = product_parts m 4 w p ∙ ap (bit_xor (product_low 4 (w / 2 ^ m) p)) (sym (raised_product 4 m w p)) ∙ xor_comm (product_low 4 (w / 2 ^ m) p) (times_power 4 (product_low m w p)) in
    (λ i. bit_xor (raised_of_xor 4 (windows n m a v) (product_low m w p) i) (bit_xor (windows n 4 (a / 2 ^ m) v) (product_low 4 (moved i) p)))
    ∙ xor_middle (times_power 4 (windows n m a v)) (times_power 4 (product_low m w p)) (windows n 4 (a / 2 ^ m) v) (product_low 4 (w / 2 ^ m) p)
    ∙ (λ i. bit_xor (windows_more n m a v i) (sym here i))

-- the first windows, and the bits after them
windows_and_rest : (n a v : ℕ) → n ≤ 8 → bit_xor (windows n 16 a v) (product_low (128 - 16 * n) a (times_power (16 * n) v)) ≡ product_low 128 a v
unfolding windows times_power
windows_and_rest zero a v h = xor_zero_l (product_low 128 a v)
windows_and_rest (suc n) a v h =
    let k = 112 - 16 * n in
    let after : 128 - 16 * suc n ≡ k = omega arith in
    let more : 128 - 16 * n ≡ k + 16 = omega arith in
    let next : 16 * suc n ≡ 16 * n + 16 = omega arith in
    let parts = product_parts k 16 a (times_power (16 * n) v) ∙ ap (λ z. bit_xor (product_low 16 (a / 2 ^ k) (times_power (16 * n) v)) (product_low k a z)) (raised_again 16 (16 * n) v) in
    rw (after, next) (xor_assoc (windows n 16 a v) (product_low 16 (a / 2 ^ k) (times_power (16 * n) v)) (product_low k a (times_power (16 * n + 16) v)) ∙ ap (bit_xor (windows n 16 a v)) (sym parts ∙ ap (λ j. product_low j a (times_power (16 * n) v)) (sym more)) ∙ windows_and_rest n a v (omega arith))

pub windows_all : (a v : ℕ) → windows 8 16 a v ≡ product a v
unfolding product product_low
windows_all a v = sym (xor_zero_r (windows 8 16 a v)) ∙ windows_and_rest 8 a v (omega arith)

-- the entry of four bits of a window
module _ (t : List ℕ) (table : IsHashTable t) (a : ℕ) where
  entry : (w j s : ℕ) → w < 8 → j ≡ 16 * w + s % 16 → slice_index t j ≡ product_low 4 s (times_power (16 * w) (slice_index t 8))
  entry w j s w8 e =
      let bits : j % 16 ≡ s % 16 = omega arith in
      let window : j / 16 ≡ w = omega arith in
      table j (omega arith) ∙ (λ i. product_low 4 (bits i) (times_power (16 * window i) (slice_index t 8))) ∙ lowest_four s (times_power (16 * w) (slice_index t 8))

  pub sum_is : bit_xor (bit_xor (bit_xor (bit_xor (bit_xor (bit_xor (bit_xor (slice_index t (a / 2 ^ 112 % 16)) (slice_index t (16 + a / 2 ^ 96 % 16))) (slice_index t (32 + a / 2 ^ 80 % 16))) (slice_index t (48 + a / 2 ^ 64 % 16))) (slice_index t (64 + a / 2 ^ 48 % 16))) (slice_index t (80 + a / 2 ^ 32 % 16))) (slice_index t (96 + a / 2 ^ 16 % 16))) (slice_index t (112 + a % 16)) ≡ windows 8 4 a (slice_index t 8)
  unfolding windows
  sum_is =
      let e0 = entry 0 (a / 2 ^ 112 % 16) (a / 2 ^ 112) (omega arith) (omega arith) ∙ sym (xor_zero_l (product_low 4 (a / 2 ^ 112) (times_power 0 (slice_index t 8)))) in
      let e1 = entry 1 (16 + a / 2 ^ 96 % 16) (a / 2 ^ 96) (omega arith) (omega arith) in
      let e2 = entry 2 (32 + a / 2 ^ 80 % 16) (a / 2 ^ 80) (omega arith) (omega arith) in
      let e3 = entry 3 (48 + a / 2 ^ 64 % 16) (a / 2 ^ 64) (omega arith) (omega arith) in
      let e4 = entry 4 (64 + a / 2 ^ 48 % 16) (a / 2 ^ 48) (omega arith) (omega arith) in
      let e5 = entry 5 (80 + a / 2 ^ 32 % 16) (a / 2 ^ 32) (omega arith) (omega arith) in
      let e6 = entry 6 (96 + a / 2 ^ 16 % 16) (a / 2 ^ 16) (omega arith) (omega arith) in
      let e7 = entry 7 (112 + a % 16) (a / 1) (omega arith) (omega arith) in
      λ i. bit_xor (bit_xor (bit_xor (bit_xor (bit_xor (bit_xor (bit_xor (e0 i) (e1 i)) (e2 i)) (e3 i)) (e4 i)) (e5 i)) (e6 i)) (e7 i)

-- the entry 8 of a table made of h is h
pub first_entry : (h : ℕ) → product_low 4 8 h ≡ h
unfolding product_low
first_entry h =
    rw (one-mul h, zero-mul (next_power h), zero-mul (next_power (next_power h)), zero-mul (next_power (next_power (next_power h)))) (xor_zero_r h)

-- four times four powers more
pub raised_sixteen : (k v : ℕ) → times_power 4 (times_power 4 (times_power 4 (times_power 4 (times_power k v)))) ≡ times_power (k + 16) v
raised_sixteen k v =
    ap (λ z. times_power 4 (times_power 4 (times_power 4 z))) (raised_again 4 k v)
    ∙ ap (λ z. times_power 4 (times_power 4 z)) (raised_again 4 (k + 4) v)
    ∙ ap (times_power 4) (raised_again 4 (k + 4 + 4) v)
    ∙ raised_again 4 (k + 4 + 4 + 4) v
    ∙ ap (λ n. times_power n v) (omega arith)

-- a table that was made of h
module _ (t : List ℕ) (h : ℕ) (made : (j : ℕ) → j < 128 → get_or t j 0 ≡ product_low 4 (j % 16) (times_power (16 * (j / 16)) h)) where
  pub made_of : get_or t 8 0 ≡ h
  unfolding times_power
  made_of = made 8 (omega arith) ∙ first_entry h

  pub made_table : IsHashTable t
  made_table = λ j b. made j b ∙ ap (λ z. product_low 4 (j % 16) (times_power (16 * (j / 16)) z)) (sym made_of)
