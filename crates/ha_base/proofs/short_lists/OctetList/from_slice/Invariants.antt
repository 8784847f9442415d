use Rattle.std.proofs.Common.{◌≡◌, take}
use Rattle.ha_base.proofs.short_lists.OctetList.from_slice.Given as goal

abbrev pub invariant-loop-octet : goal.invariant-loop-octet
invariant-loop-octet g l = l.kept.items ≡ take l.octet-index l.octets
