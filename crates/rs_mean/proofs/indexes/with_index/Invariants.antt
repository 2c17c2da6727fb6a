use Rattle.std.proofs.Common.{◌≡◌, take}
use Rattle.rs_mean.proofs.indexes.with_index.Given as goal

abbrev pub invariant-loop-other : goal.invariant-loop-other
invariant-loop-other l = l.more ≡ take l.other-index l.indexes
