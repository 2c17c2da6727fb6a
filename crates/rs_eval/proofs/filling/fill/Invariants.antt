use Rattle.std.proofs.Common.{◌≡◌, map, take}
use Rattle.rs_eval.specs.Filling.{filled_cmp}
use Rattle.rs_eval.proofs.filling.fill.Given as goal

abbrev pub invariant-loop-clause : goal.invariant-loop-clause
invariant-loop-clause l = l.filled ≡ map (λ clause. map (filled_cmp l.values) clause) (take l.clause-index l.clauses)
