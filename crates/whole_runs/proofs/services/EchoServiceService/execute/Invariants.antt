use Rattle.std.proofs.Common.{◌≡◌, ◌∷◌, take}
use Rattle.whole_runs.proofs.services.EchoServiceService.execute.Given as goal

abbrev pub invariant-loop-octet : goal.invariant-loop-octet
invariant-loop-octet l = l.octets ≡ 238 ∷ take l.octet-index l.octet-items
