use Rattle.std.proofs.Common.{length}
use Rattle.row_cases.proofs.index.append_left.Given as goal

abbrev pub decreases-loop-number : goal.decreases-loop-number
decreases-loop-number g l = length (g.A.Access.left l.access)
