-- Numbers by their bits.
use Rattle.std.proofs.Common.{◌≡◌, ℕ, sym, ◌∙◌, ap}
use Rattle.std.specs.Prelude.{bit_xor}
use lib.Bits.{xor_assoc, xor_self, xor_zero_l, xor_zero_r}

-- numbers whose exclusive or is 0 are the same
pub same_from_xor : (x y : ℕ) → bit_xor x y ≡ 0 → x ≡ y
same_from_xor x y none =
    sym (xor_zero_r x)
    ∙ ap (bit_xor x) (sym (xor_self y))
    ∙ sym (xor_assoc x y y)
    ∙ ap (λ z. bit_xor z y) none
    ∙ xor_zero_l y
