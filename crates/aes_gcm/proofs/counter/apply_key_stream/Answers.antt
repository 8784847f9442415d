use Rattle.std.proofs.Common.{◌≡◌, ◌∙◌, ◌+◌, ◌*◌, ◌/◌, ◌≤◌, ◌++◌, ℕ, List, arith, sym, ap, length, take, refl, rules}
use Rattle.aes_gcm.specs.Aes.{cipher, xored}
use Rattle.aes_gcm.specs.Gcm.{key_stream, counter_block}
use Rattle.aes_gcm.proofs.HeldKeys.{length-cipher}
use Rattle.aes_gcm.proofs.Streams.{streamed_step, streamed_rest, length_held, two_more, length-key_stream, streamed_all}
use Rattle.aes_gcm.proofs.counter.apply_key_stream.Goals as goal

blocks : (w : List ℕ) (n : ℕ) (nonce : List ℕ) → length w ≡ 240 → n ≤ 13 → (k : ℕ) → length (cipher w n (counter_block nonce k)) ≡ 16
blocks w n nonce long few k = length-cipher w n (counter_block nonce k) (omega arith)

pub loop-i-init : goal.loop-i-init
unfolding key_stream xored
loop-i-init c = record { done = refl; rest = refl }

pub loop-i-preserved : goal.loop-i-preserved
loop-i-preserved c =
    let f = cipher c.args.round_keys.now c.args.middle_rounds in
    let nonce = c.args.nonce.now in
    let xs = c.args.buf.now in
    let now = c.loop-i.buf in
    let part = c.xor_lanes.new.buf in
    let i = c.loop-i.i in
    let pad = f (counter_block nonce (2 * i + 2)) ++ f (counter_block nonce (2 * i + 3)) in
    let ks = key_stream f nonce (2 * i) in
    let each = blocks c.args.round_keys.now c.args.middle_rounds nonce c.told-round_keys c.requires.rounds in
    let long : length ks ≡ 32 * i = length-key_stream f nonce each (2 * i) ∙ omega arith in
    let two : length pad ≡ 32 = sym (ap length (c.two_blocks-pad.ensures nonce c.begin_counters-begun.ensures)) ∙ search rules in
    let part_is = c.xor_lanes.ensures ∙ ap (xored _) (c.two_blocks-pad.ensures nonce c.begin_counters-begun.ensures) in
    let next : 32 * (i + 1) ≡ 32 * i + 32 = omega arith in
    let inv = c.loop-i.invariant in
    record {
      done = rw next (streamed_step xs now part ks pad (32 * i) (32 * i + 32) c.loop-i.auto.buf (omega arith) (omega arith) part_is two inv.rest inv.done long ∙ ap (xored (take (32 * i + 32) xs)) (two_more f nonce i));
      rest = rw next (streamed_rest xs now part ks pad (32 * i) (32 * i + 32) c.loop-i.auto.buf (omega arith) (omega arith) part_is two inv.rest);
    }

pub returns-then-whole-len : goal.returns-then-whole-len
returns-then-whole-len c =
    let f = cipher c.args.round_keys.now c.args.middle_rounds in
    let nonce = c.args.nonce.now in
    let xs = c.args.buf.now in
    let now = c.loop-i.buf in
    let part = c.xor_into.new.buf in
    let w = length xs / 32 in
    let m = 32 * w in
    let pad = f (counter_block nonce (2 * w + 2)) ++ f (counter_block nonce (2 * w + 3)) in
    let ks = key_stream f nonce (2 * w) in
    let each = blocks c.args.round_keys.now c.args.middle_rounds nonce c.told-round_keys c.requires.rounds in
    let long : length ks ≡ m = length-key_stream f nonce each (2 * w) ∙ omega arith in
    let two : length pad ≡ 32 = sym (ap length (c.two_blocks-last.ensures nonce c.begin_counters-begun.ensures)) ∙ search rules in
    let part_is = c.xor_into.ensures ∙ ap (xored _) (c.two_blocks-last.ensures nonce c.begin_counters-begun.ensures) in
    let all : c.loop-i.i ≡ w = omega arith in
    let done = rw all at c.loop-i.invariant.done in
    let rest = rw all at c.loop-i.invariant.rest in
    let next : 32 * (w + 1) ≡ m + 32 = omega arith in
    streamed_all f nonce xs _ (w + 1) each (omega arith) (length_held xs now part ks pad m (length xs) c.loop-i.auto.buf (omega arith) (omega arith) part_is two rest) (rw next (streamed_step xs now part ks pad m (length xs) c.loop-i.auto.buf (omega arith) (omega arith) part_is two rest done long ∙ ap (xored (take (m + 32) xs)) (two_more f nonce w)))

pub returns-else-whole-len : goal.returns-else-whole-len
returns-else-whole-len c =
    let f = cipher c.args.round_keys.now c.args.middle_rounds in
    let nonce = c.args.nonce.now in
    let xs = c.args.buf.now in
    let w = length xs / 32 in
    let each = blocks c.args.round_keys.now c.args.middle_rounds nonce c.told-round_keys c.requires.rounds in
    let all : c.loop-i.i ≡ w = omega arith in
    let done = rw all at c.loop-i.invariant.done in
    streamed_all f nonce xs c.loop-i.buf w each (omega arith) c.loop-i.auto.buf done
