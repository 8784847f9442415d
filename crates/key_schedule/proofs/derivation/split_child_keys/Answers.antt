use Rattle.std.proofs.Common.{◌*◌, ◌++◌, arith, ◌∙◌}
use Rattle.key_schedule.proofs.Parts.{two_parts}
use Rattle.key_schedule.proofs.derivation.split_child_keys.Goals as goal

pub returns-clause-stream : goal.returns-clause-stream
returns-clause-stream c =
    (λ i. c.from_slice.ensures i ++ c.from_slice-2.ensures i)
    ∙ two_parts c.args.stream.now c.args.key_octets (2 * c.args.key_octets) (omega arith) (omega arith)
