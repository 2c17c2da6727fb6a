use Rattle.std.proofs.Common.{◌≡◌, ◌++◌, map, take, drop}
use Rattle.rs_lock.specs.Waits.{aged}
use Rattle.rs_lock.proofs.wait.age_each.Given as goal

abbrev pub invariant-loop-wait : goal.invariant-loop-wait
invariant-loop-wait l = l.waits ≡ map aged (take l.wait-index l.initial.waits) ++ drop l.wait-index l.initial.waits
