use Rattle.std.proofs.Common.{◌≡◌, take}
use Rattle.std.specs.List.{AllByRecursion}
use Rattle.ha_base.proofs.services.are_fresh.Given as goal

abbrev pub invariant-loop-service : goal.invariant-loop-service
invariant-loop-service g l = AllByRecursion (λ b. (goal.Service-dyn g (b.vtable, b.value)).count b.value ≡ 0) (take l.service-index l.services.items)
