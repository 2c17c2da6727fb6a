use Rattle.std.proofs.Common.{◌≡◌, false, length}
use Rattle.rs_run.specs.SourceReader.{are_accepted}
use Rattle.rs_run.proofs.source.are_accepted.Given as goal

abbrev pub invariant-loop-left : goal.invariant-loop-left
invariant-loop-left l = are_accepted l.unsettled l.left ≡ are_accepted false l.events

abbrev pub decreases-loop-left : goal.decreases-loop-left
decreases-loop-left l = length l.left
