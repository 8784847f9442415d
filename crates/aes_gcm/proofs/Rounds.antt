-- The rounds of the cipher.
use Rattle.std.proofs.Common.{◌≡◌, ℕ, ◌+◌, ◌∙◌, List, ap, sym, add-one}
use Rattle.aes_gcm.specs.Aes.{xored, mix_columns, shift_rows, sub_bytes, rounds, round_key, cipher}

pub rounds_more : (w s : List ℕ) (r : ℕ) → rounds w s (r + 1) ≡ xored (mix_columns (shift_rows (sub_bytes (rounds w s r)))) (round_key w (r + 1))
unfolding rounds
rounds_more w s r = rw add-one

-- the state t after the round that follows the first r
pub round_after : (w block s t : List ℕ) (r next : ℕ) → next ≡ r + 1 → s ≡ rounds w block r → t ≡ xored (mix_columns (shift_rows (sub_bytes s))) (round_key w next) → t ≡ rounds w block next
round_after w block s t r next e before now =
    now ∙ (λ i. xored (mix_columns (shift_rows (sub_bytes (before i)))) (round_key w (e i))) ∙ sym (rounds_more w block r) ∙ ap (rounds w block) (sym e)

-- the block t after the last round, which follows the first n
pub last_after : (w block s t : List ℕ) (r n : ℕ) → r ≡ n → s ≡ rounds w block r → t ≡ xored (shift_rows (sub_bytes s)) (round_key w (n + 1)) → t ≡ cipher w n block
unfolding cipher
last_after w block s t r n e before now =
    now ∙ (λ i. xored (shift_rows (sub_bytes ((before ∙ ap (rounds w block) e) i))) (round_key w (n + 1)))
