use Rattle.std.proofs.Common.{◌≡◌, ◌-◌, replicate, fold}
use Rattle.rs_course.specs.Course.{GiveNext}
use Rattle.rs_site.specs.Course.{act}
use Rattle.rs_world.proofs.world.World.deliver_most.Given as goal

abbrev pub invariant-loop : goal.invariant-loop
invariant-loop l = fold act l.self (replicate (l.most - l.counter) GiveNext) ≡ fold act l.fn.self (replicate l.fn.most GiveNext)
