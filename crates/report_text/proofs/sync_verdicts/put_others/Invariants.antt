use Rattle.std.proofs.Common.{◌≡◌, ◌++◌, take}
use Rattle.std.specs.List.{flat_map}
use Rattle.report_text.specs.Spelling.{comma_number}
use Rattle.report_text.proofs.sync_verdicts.put_others.Given as goal

abbrev pub invariant-loop-number : goal.invariant-loop-number
invariant-loop-number l = l.out.octets ≡ l.fn.out.octets ++ flat_map comma_number (take l.number-index l.numbers)
