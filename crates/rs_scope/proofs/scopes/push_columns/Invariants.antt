use Rattle.std.proofs.Common.{◌≡◌, ◌++◌, take}
use Rattle.rs_scope.specs.Scope.{columns_as}
use Rattle.rs_scope.proofs.scopes.push_columns.Given as goal

abbrev pub invariant-loop-column : goal.invariant-loop-column
invariant-loop-column l = l.scope ≡ l.fn.scope ++ columns_as l.table (take l.column-index l.columns)
