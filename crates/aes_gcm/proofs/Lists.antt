-- Lists of octets, joined place by place.
use Rattle.std.proofs.Common.{◌≡◌, ℕ, suc, ◌+◌, ◌<◌, ◌≤◌, ◌≢◌, ⊎_elim, List, [], ◌∷◌, ◌++◌, length, get_or, refl, sym, ap, ◌∙◌, arith}
use Rattle.std.proofs.lemmas.List.{ext_get_or, append-nil, take_at, drop_at, drop_all}
use borrow.Rule.Slice.PartMut.{put_mid}
use Rattle.std.proofs.lemmas.Simd.{get_or-zip2}
use Rattle.std.specs.Int.Bits.{bit_or, bit_xor, or_zero_l, xor_assoc, xor_self, xor_zero_r}
use Rattle.std.proofs.lemmas.Nat.{le_or_l, le_or_r}
use Rattle.std.proofs.lemmas.Bool.{cases_eq}
use lib.Lanes.{zip2}
use Rattle.ha_base.proofs.Bits.{same_from_xor}
use Rattle.aes_gcm.specs.Aes.{xored}

pub length-zip2_le : (xs ys : List ℕ) → length xs ≤ length ys → length (zip2 bit_xor xs ys) ≡ length xs
length-zip2_le [] ys h = refl
length-zip2_le (x ∷ xs) [] h = omega arith
length-zip2_le (x ∷ xs) (y ∷ ys) h = ap suc (length-zip2_le xs ys (omega arith))

pub length-xored : (xs ys : List ℕ) → length xs ≤ length ys → length (xored xs ys) ≡ length xs
unfolding xored
length-xored xs ys h = length-zip2_le xs ys h

-- a list is `xored` where each place says so
pub xored_from_places : (xs ys zs : List ℕ) → length zs ≡ length xs → length xs ≤ length ys → ((k : ℕ) → k < length xs → get_or zs k 0 ≡ bit_xor (get_or xs k 0) (get_or ys k 0)) → zs ≡ xored xs ys
unfolding xored
xored_from_places xs ys zs long fits each =
    ext_get_or 0 zs (zip2 bit_xor xs ys) (long ∙ sym (length-zip2_le xs ys fits)) (λ k h.
    each k (omega arith) ∙ sym (get_or-zip2 bit_xor xs ys k 0 0 0 (omega arith) (omega arith)))

xored-append_zip : (ps qs xs ys : List ℕ) → length ps ≡ length xs → zip2 bit_xor (ps ++ qs) (xs ++ ys) ≡ zip2 bit_xor ps xs ++ zip2 bit_xor qs ys
xored-append_zip [] qs [] ys h = refl
xored-append_zip [] qs (x ∷ xs) ys h = absurd (omega arith)
xored-append_zip (p ∷ ps) qs [] ys h = absurd (omega arith)
xored-append_zip (p ∷ ps) qs (x ∷ xs) ys h = ap (λ zs. bit_xor p x ∷ zs) (xored-append_zip ps qs xs ys (omega arith))

pub xored-append : (ps qs xs ys : List ℕ) → length ps ≡ length xs → xored (ps ++ qs) (xs ++ ys) ≡ xored ps xs ++ xored qs ys
unfolding xored
xored-append ps qs xs ys h = xored-append_zip ps qs xs ys h

enough_zip : (xs ks more : List ℕ) → length xs ≤ length ks → zip2 bit_xor xs (ks ++ more) ≡ zip2 bit_xor xs ks
enough_zip [] ks more h = refl
enough_zip (x ∷ xs) [] more h = absurd (omega arith)
enough_zip (x ∷ xs) (k ∷ ks) more h = ap (λ zs. bit_xor x k ∷ zs) (enough_zip xs ks more (omega arith))

-- what is beyond the text is not joined with it
pub xored_enough : (xs ks more : List ℕ) → length xs ≤ length ks → xored xs (ks ++ more) ≡ xored xs ks
unfolding xored
xored_enough xs ks more h = enough_zip xs ks more h

pub xor_twice : (x k : ℕ) → bit_xor (bit_xor x k) k ≡ x
xor_twice x k = xor_assoc x k k ∙ ap (bit_xor x) (xor_self k) ∙ xor_zero_r x

xored_twice_zip : (xs ks : List ℕ) → length xs ≤ length ks → zip2 bit_xor (zip2 bit_xor xs ks) ks ≡ xs
xored_twice_zip [] ks h = refl
xored_twice_zip (x ∷ xs) [] h = absurd (omega arith)
xored_twice_zip (x ∷ xs) (k ∷ ks) h = λ i. xor_twice x k i ∷ xored_twice_zip xs ks (omega arith) i

pub xored_twice : (xs ks : List ℕ) → length xs ≤ length ks → xored (xored xs ks) ks ≡ xs
unfolding xored
xored_twice xs ks h = xored_twice_zip xs ks h

-- one octet more of two lists is compared
pub apart_more : (xs ys : List ℕ) (i apart : ℕ) → (apart ≡ 0 → (k : ℕ) → k < i → get_or xs k 0 ≡ get_or ys k 0) → bit_or apart (bit_xor (get_or xs i 0) (get_or ys i 0)) ≡ 0 → (k : ℕ) → k < i + 1 → get_or xs k 0 ≡ get_or ys k 0
apart_more xs ys i apart sofar none k h =
    let old : apart ≡ 0 = omega (arith, le_or_l apart (bit_xor (get_or xs i 0) (get_or ys i 0))) in
    let new : bit_xor (get_or xs i 0) (get_or ys i 0) ≡ 0 = omega (arith, le_or_r apart (bit_xor (get_or xs i 0) (get_or ys i 0))) in
    ⊎_elim (λ e. rw e (same_from_xor (get_or xs i 0) (get_or ys i 0) new)) (λ (other : k ≢ i). sofar old k (omega arith)) (cases_eq k i)

pub together_more : (xs ys : List ℕ) (i apart : ℕ) → apart ≡ 0 → xs ≡ ys → bit_or apart (bit_xor (get_or xs i 0) (get_or ys i 0)) ≡ 0
together_more xs ys i apart old same =
    ap (λ a. bit_or a (bit_xor (get_or xs i 0) (get_or ys i 0))) old ∙ or_zero_l (bit_xor (get_or xs i 0) (get_or ys i 0)) ∙ ap (λ zs. bit_xor (get_or xs i 0) (get_or zs i 0)) (sym same) ∙ xor_self (get_or xs i 0)

-- an array whose second part was written after its first
pub two_parts : (a k : ℕ) (xs zs ys : List ℕ) → length xs ≡ a → length zs ≡ k → put_mid a k (xs ++ zs) ys ≡ xs ++ ys
two_parts a k xs zs ys first second =
    rw (take_at xs zs a first, drop_at xs zs a first, drop_all k zs (omega arith)) (ap (λ t. xs ++ t) (append-nil ys))
