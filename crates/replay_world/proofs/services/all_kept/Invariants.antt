use Rattle.std.proofs.Common.{◌≡◌, map, Some}
use Rattle.replay_world.proofs.services.all_kept.Given as goal

-- what was moved so far is kept, each service as it was
abbrev pub invariant-loop-service : goal.invariant-loop-service
invariant-loop-service g l = l.kept.items ≡ map Some l.yielded
