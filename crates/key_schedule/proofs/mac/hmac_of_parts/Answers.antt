use Rattle.std.proofs.Common.{◌≡◌, ◌++◌, ◌∙◌, List, ℕ, ap, append_assoc}
use Rattle.sha2.specs.Sha256.{sha256}
use Rattle.key_schedule.specs.Hmac.{masked_octets, block_key, hmac}
use Rattle.key_schedule.proofs.mac.hmac_of_parts.Goals as goal

regroup : (a b c d : List ℕ) → ((a ++ b) ++ c) ++ d ≡ a ++ (b ++ c ++ d)
regroup a b c d = simp append_assoc

pub returns : goal.returns
unfolding hmac
returns c =
    let key = c.args.key.now in
    let first = c.args.first.now in
    let second = c.args.second.now in
    let third = c.args.third.now in
    let inner_block : c.masked_octets-inner_block.result ≡ masked_octets 0x36 (block_key key) =
    c.masked_octets-inner_block.ensures ∙ ap (masked_octets 0x36) c.block_key-block.ensures in
    let outer_block : c.masked_octets-outer_block.result ≡ masked_octets 0x5c (block_key key) =
    c.masked_octets-outer_block.ensures ∙ ap (masked_octets 0x5c) c.block_key-block.ensures in
    let inner : c.finalize-inner_digest.result ≡ sha256 (masked_octets 0x36 (block_key key) ++ (first ++ second ++ third)) =
    c.finalize-inner_digest.ensures _
    (c.update-4.ensures _
    (c.update-3.ensures _ (c.update-2.ensures _ (c.update.ensures _ c.new-inner.ensures))))
    ∙ ap sha256
    (regroup c.masked_octets-inner_block.result first second third
    ∙ (λ i. inner_block i ++ (first ++ second ++ third))) in
    c.finalize.ensures _ (c.update-6.ensures _ (c.update-5.ensures _ c.new-outer.ensures))
    ∙ (λ i. sha256 (outer_block i ++ inner i))
