use Rattle.std.proofs.Common.{◌≡◌}
use Rattle.std.specs.Prelude.{flat_map}
use Rattle.rs_scope.specs.Scope.{alias_of, columns_as}
use Rattle.rs_scope.proofs.scopes.query_scope.Given as goal

abbrev pub invariant-loop-table : goal.invariant-loop-table
invariant-loop-table l = l.scope ≡ flat_map (λ both. columns_as (alias_of both.0.now both.1.now) both.1.now.columns) l.yielded
