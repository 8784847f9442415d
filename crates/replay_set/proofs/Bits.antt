-- Words of 64 bits: masks, and one bit of a ring after a word of it was changed.
use Rattle.std.proofs.Common.{◌≡◌, ◌≢◌, ℕ, ◌+◌, ◌-◌, ◌*◌, ◌/◌, ◌%◌, ◌^◌, ◌<◌, ◌≤◌, ◌⊎◌, inl, inr, List, true, false, ◌&&◌, ◌==◌, nat_lt, min, length, get_or, set, bit_and, bit_or, w64, refl, ap, sym, ◌∙◌, arith}
use Rattle.std.specs.Int.{bit_at, bit_not}
use Rattle.std.proofs.lemmas.Bool.{cases_lt}
use Rattle.std.proofs.lemmas.Bool.Decides.{nat_tests}
use Rattle.std.proofs.lemmas.List.{get_or-set_other}
use Rattle.std.proofs.lemmas.Grind.{get_or-set_at}
use Rattle.std.proofs.lemmas.Nat.Bits.{ones_shl, ones_shr, bit_at_and, bit_at_not, bit_at_ones, bit_at_ones_above, bit_at_mask_inside, bit_at_mask_below, bit_at_set_same, bit_at_set_other, bit_at-lt}
use Rattle.replay_set.specs.Ring.{is_marked}

-- ---- a run of ones

module _ (low high : ℕ) (some : low < high) (within : high ≤ 64) where
  abbrev mask : ℕ
  mask = bit_and (18446744073709551615 * 2 ^ low % 18446744073709551616) (18446744073709551615 / 2 ^ (64 - high))

  bit_of_mask : (i : ℕ) → bit_at mask i ≡ min (bit_at (2 ^ 64 - 2 ^ low) i) (bit_at (2 ^ high - 1) i)
  bit_of_mask i =
      let whole : 64 - (64 - high) ≡ high = omega arith in
      let left : 18446744073709551615 * 2 ^ low % 18446744073709551616 ≡ 2 ^ 64 - 2 ^ low = ones_shl 64 low (omega arith) in
      let right : 18446744073709551615 / 2 ^ (64 - high) ≡ 2 ^ high - 1 = ones_shr 64 (64 - high) (omega arith) ∙ ap (λ k. 2 ^ k - 1) whole in
      (λ j. bit_at (bit_and (left j) (right j)) i) ∙ bit_at_and (2 ^ 64 - 2 ^ low) (2 ^ high - 1) i

  pub mask_inside : (i : ℕ) → low ≤ i → i < high → bit_at mask i ≡ 1
  mask_inside i from below = omega (arith, bit_of_mask i, bit_at_mask_inside low 64 i from (omega arith), bit_at_ones high i below)

  pub mask_below : (i : ℕ) → i < low → bit_at mask i ≡ 0
  mask_below i below = omega (arith, bit_of_mask i, bit_at_mask_below low 64 i below)

  pub mask_above : (i : ℕ) → high ≤ i → bit_at mask i ≡ 0
  mask_above i from = omega (arith, bit_of_mask i, bit_at_ones_above high i from)

-- ---- one bit of a ring

-- a number whose bit stands in another word
elsewhere : (words : List ℕ) (j value m : ℕ) → m / 64 % 16 ≢ j → is_marked (set words j value) m ≡ is_marked words m
elsewhere words j value m apart = ap (λ w. bit_at w (m % 64) == 1) (get_or-set_other words j (m / 64 % 16) value 0 apart)

-- a number whose bit stands in this word
here : (words : List ℕ) (j value m : ℕ) → length words ≡ 16 → m / 64 % 16 ≡ j → is_marked (set words j value) m ≡ (bit_at value (m % 64) == 1)
here words j value m len same = ap (λ w. bit_at w (m % 64) == 1) (get_or-set_at words j (m / 64 % 16) value 0 same (omega arith))

module _ (words : List ℕ) (n : ℕ) (len : length words ≡ 16) where
  abbrev marking : List ℕ
  marking = set words (n / 64 % 16) (bit_or (get_or words (n / 64 % 16) 0) (1 * 2 ^ (n % 64) % 18446744073709551616))

  pub mark_set : is_marked marking n ≡ true
  mark_set =
      let bit = bit_at_set_same w64 (get_or words (n / 64 % 16) 0) (n % 64) (omega arith) in
      here words (n / 64 % 16) _ n len refl ∙ ap (λ b. b == 1) bit

  pub mark_others : (m : ℕ) → m % 1024 ≢ n % 1024 → is_marked marking m ≡ is_marked words m
  mark_others m apart = go (cases_lt (m / 64 % 16) (n / 64 % 16)) (cases_lt (n / 64 % 16) (m / 64 % 16))
    where
      go : (m / 64 % 16 < n / 64 % 16) ⊎ (n / 64 % 16 ≤ m / 64 % 16) → (n / 64 % 16 < m / 64 % 16) ⊎ (m / 64 % 16 ≤ n / 64 % 16) → is_marked marking m ≡ is_marked words m
      go (inl p) q = elsewhere words (n / 64 % 16) _ m (λ e. omega arith)
      go p (inl q) = elsewhere words (n / 64 % 16) _ m (λ e. omega arith)
      go (inr p) (inr q) =
          let same : m / 64 % 16 ≡ n / 64 % 16 = omega arith in
          here words (n / 64 % 16) _ m len same
          ∙ ap (λ b. b == 1) (bit_at_set_other w64 (get_or words (n / 64 % 16) 0) (n % 64) (omega arith) (m % 64) (λ e. apart (omega arith)))
          ∙ ap (λ j. bit_at (get_or words j 0) (m % 64) == 1) (sym same)

-- the bits that are ones in `bits` are taken from a word
module _ (words : List ℕ) (j bits : ℕ) (len : length words ≡ 16) (fits : bits < 2 ^ 64) where
  abbrev masked : List ℕ
  masked = set words j (bit_and (get_or words j 0) (bit_not w64 bits))

  masked_bit : (k : ℕ) → k < 64 → bit_at (bit_and (get_or words j 0) (bit_not w64 bits)) k ≡ min (bit_at (get_or words j 0) k) (1 - bit_at bits k)
  masked_bit k small = bit_at_and (get_or words j 0) (bit_not w64 bits) k ∙ ap (min (bit_at (get_or words j 0) k)) (bit_at_not w64 bits k fits small)

  masked_kept : (m : ℕ) → (m / 64 % 16 ≡ j → bit_at bits (m % 64) ≡ 0) → is_marked masked m ≡ is_marked words m
  masked_kept m none = go (cases_lt (m / 64 % 16) j) (cases_lt j (m / 64 % 16))
    where
      go : (m / 64 % 16 < j) ⊎ (j ≤ m / 64 % 16) → (j < m / 64 % 16) ⊎ (m / 64 % 16 ≤ j) → is_marked masked m ≡ is_marked words m
      go (inl p) q = elsewhere words j _ m (λ e. omega arith)
      go p (inl q) = elsewhere words j _ m (λ e. omega arith)
      go (inr p) (inr q) =
          let same : m / 64 % 16 ≡ j = omega arith in
          let stays : bit_at (bit_and (get_or words j 0) (bit_not w64 bits)) (m % 64) ≡ bit_at (get_or words j 0) (m % 64) =
          omega (arith, masked_bit (m % 64) (omega arith), none same, bit_at-lt (get_or words j 0) (m % 64)) in
          here words j _ m len same ∙ ap (λ b. b == 1) stays ∙ ap (λ i. bit_at (get_or words i 0) (m % 64) == 1) (sym same)

  masked_gone : (m : ℕ) → m / 64 % 16 ≡ j → bit_at bits (m % 64) ≡ 1 → is_marked masked m ≡ false
  masked_gone m same one =
      let zero_bit : bit_at (bit_and (get_or words j 0) (bit_not w64 bits)) (m % 64) ≡ 0 = omega (arith, masked_bit (m % 64) (omega arith), one) in
      here words j _ m len same ∙ ap (λ b. b == 1) zero_bit

-- ---- a range of numbers cleared, word by word

-- of the 1,024 numbers below `to` those from `from` on are cleared as far as the words before `block` have them
pub record AreCleared (from to block : ℕ) (before after : List ℕ) : Type 0 where
  pub kept : (m : ℕ) → m < to → to ≤ m + 1024 → (m < from) ⊎ (block ≤ m / 64) → is_marked after m ≡ is_marked before m
  pub gone : (m : ℕ) → m < to → to ≤ m + 1024 → from ≤ m → m / 64 < block → is_marked after m ≡ false

-- `bits` has the ones from `low` on and below `high`
pub record AreOnes (low high bits : ℕ) : Type 0 where
  pub fits : bits < 2 ^ 64
  pub inside : (i : ℕ) → low ≤ i → i < high → bit_at bits i ≡ 1
  pub below : (i : ℕ) → i < low → bit_at bits i ≡ 0
  pub above : (i : ℕ) → high ≤ i → bit_at bits i ≡ 0

pub cleared_none : (from to block : ℕ) (words : List ℕ) → block ≤ from / 64 → AreCleared from to block words words
cleared_none from to block words first = record { kept = λ m low high side. refl; gone = λ m low high from_on under. absurd (omega arith) }

pub cleared_more : (from to block low high bits : ℕ) (before words : List ℕ) → length words ≡ 16 → from < to → to < from + 1024 → from / 64 ≤ block → block ≤ (to - 1) / 64 →
    low ≡ from - block * 64 → high ≡ min (to - block * 64) 64 → AreOnes low high bits → AreCleared from to block before words →
    AreCleared from to (block + 1) before (set words (block % 16) (bit_and (get_or words (block % 16) 0) (bit_not w64 bits)))
cleared_more from to block low high bits before words len some narrow first last low_is high_is ones cleared = record {
  kept = λ m under reach side. masked_kept words (block % 16) bits len ones.fits m (λ same. untouched m under reach side same (cases_lt (m % 64) low))
      ∙ cleared.kept m under reach (earlier m side);
  gone = λ m below reach from_on within. go m below reach from_on within (cases_lt (m / 64) block);
}
  where
    earlier : (m : ℕ) → (m < from) ⊎ (block + 1 ≤ m / 64) → (m < from) ⊎ (block ≤ m / 64)
    earlier m (inl before_from) = inl before_from
    earlier m (inr after_block) = inr (omega arith)

    untouched : (m : ℕ) → m < to → to ≤ m + 1024 → (m < from) ⊎ (block + 1 ≤ m / 64) → m / 64 % 16 ≡ block % 16 → (m % 64 < low) ⊎ (low ≤ m % 64) → bit_at bits (m % 64) ≡ 0
    untouched m under reach side same (inl less) = ones.below (m % 64) less
    untouched m under reach (inl before_from) same (inr over) = ones.above (m % 64) (omega arith)
    untouched m under reach (inr after_block) same (inr over) = absurd (omega arith)

    go : (m : ℕ) → m < to → to ≤ m + 1024 → from ≤ m → m / 64 < block + 1 → (m / 64 < block) ⊎ (block ≤ m / 64) →
        is_marked (set words (block % 16) (bit_and (get_or words (block % 16) 0) (bit_not w64 bits))) m ≡ false
    go m below reach from_on within (inl done) =
        masked_kept words (block % 16) bits len ones.fits m (λ same. ones.above (m % 64) (omega arith)) ∙ cleared.gone m below reach from_on done
    go m below reach from_on within (inr this) =
        let same : m / 64 ≡ block = omega arith in
        masked_gone words (block % 16) bits len ones.fits m (ap (λ k. k % 16) same) (ones.inside (m % 64) (omega arith) (omega arith))

-- after the last word
pub all_cleared : (from to block : ℕ) (before after : List ℕ) → (to - 1) / 64 < block → AreCleared from to block before after →
    (m : ℕ) → m < to → to ≤ m + 1024 → is_marked after m ≡ (nat_lt m from && is_marked before m)
all_cleared from to block before after end cleared m low high = go (cases_lt m from)
  where
    go : (m < from) ⊎ (from ≤ m) → is_marked after m ≡ (nat_lt m from && is_marked before m)
    go (inl under) = let t : nat_lt m from ≡ true = grind (arith, nat_tests) in rw t (cleared.kept m low high (inl under))
    go (inr over) = let t : nat_lt m from ≡ false = grind (arith, nat_tests) in rw t (cleared.gone m low high over (omega arith))
