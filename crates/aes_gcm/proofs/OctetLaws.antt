-- Functions of an octet, told equal by all of their 256 values.
use Rattle.std.proofs.Common.{◌≡◌, ℕ, ◌*◌, ◌/◌, ◌%◌, ◌<◌, map, get_or, refl, sym, ap, ◌∙◌, arith}
use Rattle.std.specs.List.{range_with_len}
use Rattle.std.proofs.lemmas.List.FromFn.{get_or-map-range_with_len}
use Rattle.std.specs.Int.Bits.{bit_xor}
use Rattle.aes_gcm.specs.declared.cipher.TheConstants.{S_BOX}
use Rattle.aes_gcm.specs.Aes.{times_low, times, inverse_below, inverse, affine, sub_byte}

pub same_below : {X : Type 0} (d : X) (f g : ℕ → X) → map f (range_with_len 0 256) ≡ map g (range_with_len 0 256) → (a : ℕ) → a < 256 → f a ≡ g a
same_below d f g e a h =
    sym (get_or-map-range_with_len f 0 256 a a d h (omega arith)) ∙ ap (λ xs. get_or xs a d) e ∙ get_or-map-range_with_len g 0 256 a a d h (omega arith)

-- the table of the S-box is the S-box
table_all : map (λ a. get_or S_BOX a 0) (range_with_len 0 256) ≡ map sub_byte (range_with_len 0 256)
unfolding sub_byte affine inverse inverse_below times times_low
table_all = refl

pub table_is : (a : ℕ) → a < 256 → get_or S_BOX a 0 ≡ sub_byte a
table_is a h = same_below 0 (λ a. get_or S_BOX a 0) sub_byte table_all a h

octets_all : map (λ a. get_or S_BOX a 0 % 256) (range_with_len 0 256) ≡ map (λ a. get_or S_BOX a 0) (range_with_len 0 256)
octets_all = refl

pub table_below : (a : ℕ) → a < 256 → get_or S_BOX a 0 < 256
table_below a h =
    let e = same_below 0 (λ a. get_or S_BOX a 0 % 256) (λ a. get_or S_BOX a 0) octets_all a h in omega arith

double_all : map (λ a. bit_xor (a * 2 % 256) (a / 128 * 27)) (range_with_len 0 256) ≡ map (times 2) (range_with_len 0 256)
unfolding times times_low
double_all = refl

pub double_is : (a : ℕ) → a < 256 → bit_xor (a * 2 % 256) (a / 128 * 27) ≡ times 2 a
double_is a h = same_below 0 (λ a. bit_xor (a * 2 % 256) (a / 128 * 27)) (times 2) double_all a h

triple_all : map (λ a. bit_xor (times 2 a) a) (range_with_len 0 256) ≡ map (times 3) (range_with_len 0 256)
unfolding times times_low
triple_all = refl

pub triple_is : (a : ℕ) → a < 256 → bit_xor (times 2 a) a ≡ times 3 a
triple_is a h = same_below 0 (λ a. bit_xor (times 2 a) a) (times 3) triple_all a h
