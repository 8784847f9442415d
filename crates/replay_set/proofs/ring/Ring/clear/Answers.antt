use Rattle.std.proofs.Common.{rules, arith}
use Rattle.replay_set.proofs.Bits.{cleared_more}
use Rattle.replay_set.proofs.ring.Ring.clear.Goals as goal

pub loop-block-preserved : goal.loop-block-preserved
loop-block-preserved c =
    let ones = c.bits_between-bits.ensures in
    cleared_more c.args.from c.args.to c.loop-block.block c.saturating_sub.result c.min.result c.bits_between-bits.result c.args.self.now.words c.loop-block.self.words (search rules)
    c.requires (omega arith) (omega arith) (omega arith) c.saturating_sub.ensures c.min.ensures
    (record { fits = c.bits_between-bits.type_inv; inside = ones.inside; below = ones.below; above = ones.above })
    c.loop-block.invariant
