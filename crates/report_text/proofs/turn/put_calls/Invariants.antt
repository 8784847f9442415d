use Rattle.std.proofs.Common.{◌≡◌, ◌++◌, take}
use Rattle.std.specs.List.{flat_map}
use Rattle.report_text.specs.Report.{keep_text}
use Rattle.report_text.proofs.turn.put_calls.Given as goal

abbrev pub invariant-loop-at : goal.invariant-loop-at
invariant-loop-at l = l.out.octets ≡ l.fn.out.octets ++ flat_map keep_text (take l.at l.calls)
