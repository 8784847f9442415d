use Rattle.std.proofs.Common.{◌++◌, ◌∙◌, append_assoc, sym}
use Rattle.std.specs.Int.{w64, to_be_bytes}
use Rattle.key_schedule.specs.Keys.{nonces_and_spis}
use Rattle.key_schedule.proofs.derivation.joined_seed.Goals as goal

pub returns : goal.returns
unfolding nonces_and_spis
returns c =
    c.join.ensures
    ∙ (λ i. c.joined_nonces-nonces.ensures i ++ c.joined_spis-spis.ensures i)
    ∙ sym (append_assoc (c.args.ni.now ++ c.args.nr.now) (to_be_bytes w64 c.args.spii) (to_be_bytes w64 c.args.spir))
