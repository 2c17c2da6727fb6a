use Rattle.std.proofs.Common.{◌≡◌, map, take}
use Rattle.rs_commit.proofs.parts.decisions_of.Given as goal

abbrev pub invariant-loop-part : goal.invariant-loop-part
invariant-loop-part l = l.decisions ≡ map (λ part. part.decided) (take l.part-index l.parts)
