use Rattle.std.proofs.Common.{◌≡◌, length}
use Rattle.rs_sched.specs.Lines.{without_returns}
use Rattle.rs_sched.proofs.lines.without_returns.Given as goal

abbrev pub invariant-loop-left : goal.invariant-loop-left
invariant-loop-left l = without_returns l.left ≡ without_returns l.line

abbrev pub decreases-loop-left : goal.decreases-loop-left
decreases-loop-left l = length l.left
