use Rattle.std.proofs.Common.{◌≡◌, ℕ, ◌*◌, ◌≤◌, length, take, length-take-le, ◌∙◌, ap, arith}
use Rattle.std.specs.Prelude.{replicate}
use Rattle.key_schedule.specs.PrfPlus.{prf_plus}
use Rattle.ha_base.specs.KeySizes.{sealing_octets}
use Rattle.key_schedule.specs.Keys.{keymat, keys_of_child}
use Rattle.key_schedule.proofs.KeySizes.{few_octets}
use Rattle.key_schedule.proofs.derivation.child_keys.Goals as goal

-- what prf+ filled
filled : (c : goal.After-stream-2-1) → c.prf_plus.new.out
    ≡ keymat (sealing_octets c.args.size) c.args.sk_d.now c.args.ni.now c.args.nr.now
unfolding keymat
filled c =
    let space = replicate {A = ℕ} 72 0 in
    let few : c.sealing_octets-key_octets.result ≤ 36 = rw c.sealing_octets-key_octets.ensures (few_octets c.args.size) in
    let room : 2 * c.sealing_octets-key_octets.result ≤ length space = omega arith in
    let size : length (take (2 * c.sealing_octets-key_octets.result) space) ≡ 2 * sealing_octets c.args.size =
    length-take-le (2 * c.sealing_octets-key_octets.result) space room ∙ ap (λ key_octets. 2 * key_octets) c.sealing_octets-key_octets.ensures in
    c.prf_plus.ensures ∙ (λ i. prf_plus c.args.sk_d.now (c.joined_nonces-seed.ensures i) (size i))

pub returns-clause-keys : goal.returns-clause-keys
returns-clause-keys c =
    c.split_child_keys.ensures.keys ∙ (λ i. keys_of_child (c.sealing_octets-key_octets.ensures i) (filled c i))

pub returns-clause-stream : goal.returns-clause-stream
returns-clause-stream c = c.split_child_keys.ensures.stream ∙ filled c
