use Rattle.std.proofs.Common.{◌≡◌, ℕ, ◌<◌, ◌≤◌, get_or}
use Rattle.std.specs.Int.Bits.{bit_xor}
use Rattle.aes_gcm.proofs.octets.xor_into.Given as goal

abbrev pub invariant-loop-i : goal.invariant-loop-i
invariant-loop-i l = record {
  done : (k : ℕ) → k < l.i → get_or l.buf k 0 ≡ bit_xor (get_or l.initial.buf k 0) (get_or l.mask k 0);
  rest : (k : ℕ) → l.i ≤ k → get_or l.buf k 0 ≡ get_or l.initial.buf k 0;
}
