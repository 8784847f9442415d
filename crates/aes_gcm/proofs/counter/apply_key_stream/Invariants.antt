use Rattle.std.proofs.Common.{◌≡◌, ◌*◌, drop, take}
use Rattle.aes_gcm.specs.Aes.{cipher, xored}
use Rattle.aes_gcm.specs.Gcm.{key_stream}
use Rattle.aes_gcm.proofs.counter.apply_key_stream.Given as goal

abbrev pub invariant-loop-i : goal.invariant-loop-i
invariant-loop-i l = record {
  done : take (32 * l.i) l.buf ≡ xored (take (32 * l.i) l.initial.buf) (key_stream (cipher l.round_keys l.middle_rounds) l.nonce (2 * l.i));
  rest : drop (32 * l.i) l.buf ≡ drop (32 * l.i) l.initial.buf;
}
