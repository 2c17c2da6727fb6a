use Rattle.std.proofs.Common.{◌≡◌, ◌++◌, reverse, length}
use Rattle.rs_world.proofs.queue.reversed.Given as goal

abbrev pub invariant-loop-item : goal.invariant-loop-item
invariant-loop-item g l = l.items ++ reverse l.reversed ≡ l.fn.items

abbrev pub decreases-loop-item : goal.decreases-loop-item
decreases-loop-item g l = length l.items
