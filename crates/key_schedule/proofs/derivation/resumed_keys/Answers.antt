use Rattle.std.proofs.Common.{◌≡◌, ℕ, ◌+◌, ◌*◌, ◌≤◌, length, take, length-take-le, ◌∙◌, ap, arith}
use Rattle.std.specs.Prelude.{replicate}
use Rattle.key_schedule.specs.PrfPlus.{prf_plus}
use Rattle.ha_base.specs.KeySizes.{sealing_octets}
use Rattle.key_schedule.specs.Keys.{skeyseed, sa_stream, sa_keys}
use Rattle.key_schedule.proofs.KeySizes.{few_octets}
use Rattle.key_schedule.proofs.derivation.resumed_keys.Goals as goal

-- what prf+ filled
filled : (c : goal.After-stream-2-1) → c.prf_plus.new.out
    ≡ sa_stream (sealing_octets c.args.size) c.args.old_sk_d.now c.args.ni.now c.args.nr.now c.args.spii c.args.spir
unfolding skeyseed sa_stream
filled c =
    let space = replicate {A = ℕ} 168 0 in
    let few : c.sealing_octets-key_octets.result ≤ 36 = rw c.sealing_octets-key_octets.ensures (few_octets c.args.size) in
    let room : 96 + 2 * c.sealing_octets-key_octets.result ≤ length space = omega arith in
    let size : length (take (96 + 2 * c.sealing_octets-key_octets.result) space) ≡ 96 + 2 * sealing_octets c.args.size =
    length-take-le (96 + 2 * c.sealing_octets-key_octets.result) space room
    ∙ ap (λ key_octets. 96 + 2 * key_octets) c.sealing_octets-key_octets.ensures in
    c.prf_plus.ensures
    ∙ (λ i. prf_plus (c.hmac_of_parts-secret.ensures i) (c.joined_seed-seed.ensures i) (size i))

pub returns-clause-keys : goal.returns-clause-keys
returns-clause-keys c =
    c.split_sa_keys.ensures.keys ∙ (λ i. sa_keys (c.sealing_octets-key_octets.ensures i) (filled c i))

pub returns-clause-stream : goal.returns-clause-stream
returns-clause-stream c = c.split_sa_keys.ensures.stream ∙ filled c
