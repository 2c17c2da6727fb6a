use Rattle.std.proofs.Common.{◌≡◌, map, take}
use Rattle.rs_scope.specs.Predicates.{bound_cmp}
use Rattle.rs_scope.proofs.clauses.bound_cmps.Given as goal

abbrev pub invariant-loop-cmp : goal.invariant-loop-cmp
invariant-loop-cmp l = l.bound ≡ map (bound_cmp l.scope l.params) (take l.cmp-index l.cmps)
