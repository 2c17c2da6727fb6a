use Rattle.std.proofs.Common.{◌≡◌, map, take}
use Rattle.rs_commit.specs.Coordinator.{silent_part}
use Rattle.rs_commit.proofs.coordinator.silent_parts.Given as goal

abbrev pub invariant-loop-part : goal.invariant-loop-part
invariant-loop-part l = l.states.items ≡ map silent_part (take l.part-index l.parts)
