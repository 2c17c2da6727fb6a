use Rattle.std.proofs.Common.{◌≡◌, ◌++◌, map, take, drop}
use Rattle.rs_commit.specs.Coordinator.{with_ack}
use Rattle.rs_commit.proofs.coordinator.count_ack.Given as goal

abbrev pub invariant-loop-part : goal.invariant-loop-part
invariant-loop-part l = l.parts ≡ map (with_ack l.from) (take l.part-index l.fn.parts) ++ drop l.part-index l.fn.parts
