use Rattle.std.proofs.Common.{◌+◌, ◌*◌, ◌++◌, sym, length-take-le, arith, ◌∙◌}
use Rattle.key_schedule.proofs.Parts.{five_parts}
use Rattle.key_schedule.proofs.derivation.split_sa_keys.Goals as goal

pub slice_bounds-key_of-end : goal.slice_bounds-key_of-end
slice_bounds-key_of-end c = sym (length-take-le 32 c.args.stream.now (omega arith))

pub key_of-requires : goal.key_of-requires
key_of-requires c = length-take-le 32 c.args.stream.now (omega arith)

pub returns-clause-stream : goal.returns-clause-stream
returns-clause-stream c =
    let key_octets = c.args.key_octets in
    (λ i. c.key_of.ensures i ++ c.from_slice.ensures i ++ c.from_slice-2.ensures i ++ c.key_of-2.ensures i ++ c.key_of-3.ensures i)
    ∙ five_parts c.args.stream.now 32 (32 + key_octets) (32 + 2 * key_octets) (64 + 2 * key_octets) (96 + 2 * key_octets)
    (omega arith) (omega arith) (omega arith) (omega arith) (omega arith)
