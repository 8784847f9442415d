use Rattle.std.proofs.Common.{◌≡◌, ◌++◌, take}
use Rattle.std.specs.List.{flat_map}
use Rattle.report_text.specs.Report.{seal_text}
use Rattle.report_text.proofs.turn.put_seals.Given as goal

abbrev pub invariant-loop-at : goal.invariant-loop-at
invariant-loop-at l = l.out.octets ≡ l.fn.out.octets ++ flat_map seal_text (take l.at l.seals)
