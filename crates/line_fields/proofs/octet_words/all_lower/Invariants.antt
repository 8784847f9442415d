use Rattle.std.proofs.Common.{◌≡◌, take}
use Rattle.std.specs.List.{list_all}
use Rattle.line_fields.specs.Octets.{is_lower}
use Rattle.line_fields.proofs.octet_words.all_lower.Given as goal

abbrev pub invariant-loop-i : goal.invariant-loop-i
invariant-loop-i l = l.lower ≡ list_all is_lower (take l.i l.word)
