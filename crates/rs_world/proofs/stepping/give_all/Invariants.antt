use Rattle.std.proofs.Common.{◌≡◌, ◌++◌, map, reverse, length}
use Rattle.rs_course.specs.Course.{reported_reply}
use Rattle.rs_world.proofs.stepping.give_all.Given as goal

abbrev pub invariant-loop-reported : goal.invariant-loop-reported
invariant-loop-reported l = l.replies ++ map reported_reply (reverse l.left) ≡ l.fn.replies ++ map reported_reply l.fn.reported

abbrev pub decreases-loop-reported : goal.decreases-loop-reported
decreases-loop-reported l = length l.left
