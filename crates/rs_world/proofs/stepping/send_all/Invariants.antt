use Rattle.std.proofs.Common.{◌≡◌, ◌++◌, flat_map, reverse, length}
use Rattle.rs_course.specs.Course.{sent_by}
use Rattle.rs_world.proofs.stepping.send_all.Given as goal

abbrev pub invariant-loop-to : goal.invariant-loop-to
invariant-loop-to l = l.sent ++ flat_map (sent_by l.site) (reverse l.left) ≡ l.fn.sent ++ flat_map (sent_by l.fn.site) l.fn.sends

abbrev pub decreases-loop-to : goal.decreases-loop-to
decreases-loop-to l = length l.left
