use Rattle.std.proofs.Common.{◌≡◌, take}
use Rattle.ha_base.proofs.short_lists.OctetArray.from_slice.Given as goal

abbrev pub invariant-loop-octet : goal.invariant-loop-octet
invariant-loop-octet g l = l.array ≡ take l.octet-index l.octets
