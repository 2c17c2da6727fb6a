use Rattle.std.proofs.Common.{◌≡◌, take}
use Rattle.rs_scope.specs.Predicates.{bound_clauses}
use Rattle.rs_scope.proofs.clauses.bound_clauses.Given as goal

abbrev pub invariant-loop-clause : goal.invariant-loop-clause
invariant-loop-clause l = l.bound ≡ bound_clauses l.scope l.params (take l.clause-index l.clauses)
