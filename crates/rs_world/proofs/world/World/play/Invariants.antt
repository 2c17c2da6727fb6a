use Rattle.std.proofs.Common.{◌≡◌, take}
use Rattle.rs_site.specs.Course.{course}
use Rattle.rs_world.proofs.world.World.play.Given as goal

abbrev pub invariant-loop-event : goal.invariant-loop-event
invariant-loop-event l = l.world ≡ course (take l.event-index l.events)
