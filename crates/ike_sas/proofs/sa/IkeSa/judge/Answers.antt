use Rattle.std.proofs.Common.{rules, ◌≡◌, true, arith}
use Rattle.ike_sas.proofs.Windows.{old_by_window}
use Rattle.ike_sas.specs.Held.{IkeHeld}
use Rattle.ike_sas.proofs.sa.IkeSa.judge.Goals as goal

pub returns-in-Old-clause-steps : goal.returns-in-Old-clause-steps
returns-in-Old-clause-steps c =
    let held : IkeHeld = record {
      keys = c.self.inside.keys;
      asked = c.self.inside.asking;
      next = c.self.inside.next;
      answered = c.self.inside.answering;
      synced = c.self.inside.synced;
    } in
    let synced : c.self.inside.synced ≡ true = search rules in
    rw (← c.self.view_is) (old_by_window held c.args.opened (omega arith) synced c.in-Old.ensures)
