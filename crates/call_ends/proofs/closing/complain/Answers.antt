-- Whatever the write answered, the line was written, or a front of it before a fault.
use Rattle.call_ends.proofs.WriteLaws.{says_either}
use Rattle.call_ends.specs.Outside.{sink_told}
use Rattle.call_ends.proofs.closing.complain.Goals as goal

pub returns-clause-says : goal.returns-clause-says
returns-clause-says g c =
    let wrote = c.write_all.ensures in
    says_either c.write_all.result (sink_told g.D.Sink c.args.diag.now) (sink_told g.D.Sink c.write_all.new.out) _ wrote.ok wrote.none wrote.err wrote.failed
