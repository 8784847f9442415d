use Rattle.std.proofs.Common.{arith, length}
use Rattle.ha_base.proofs.Slices.{drop_next, drop_none}
use Rattle.ha_base.proofs.memory_streams.MemorySourceSource.read.Goals as goal

pub returns-clause-octets : goal.returns-clause-octets
returns-clause-octets c =
    let xs = c.self.inside.octets.octets in
    let at = c.self.inside.at in
    let n = c.copy_front-n.result in
    let copied = rw c.as_slice-2.ensures.value at c.copy_front-n.ensures.copied in
    let count = rw c.as_slice-2.ensures.value at c.copy_front-n.ensures.count in
    rw (← c.self.view_is, copied) (
      drop_next xs at n,
      λ none some. drop_none xs at n c.self.inside.piece (length c.args.buf.now) count c.self.invariant.1 (omega (arith, some, c.copy_front-n.auto.buf)) none,
    )
