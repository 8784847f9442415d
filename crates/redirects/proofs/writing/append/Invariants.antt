use Rattle.std.proofs.Common.{◌≡◌, ◌++◌, take}
use Rattle.redirects.proofs.writing.append.Given as goal

abbrev pub invariant-loop-octet : goal.invariant-loop-octet
invariant-loop-octet l = l.octets ≡ l.fn.octets ++ take l.octet-index l.more
