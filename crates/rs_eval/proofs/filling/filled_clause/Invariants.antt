use Rattle.std.proofs.Common.{◌≡◌, map, take}
use Rattle.rs_eval.specs.Filling.{filled_cmp}
use Rattle.rs_eval.proofs.filling.filled_clause.Given as goal

abbrev pub invariant-loop-cmp : goal.invariant-loop-cmp
invariant-loop-cmp l = l.filled ≡ map (filled_cmp l.values) (take l.cmp-index l.clause)
