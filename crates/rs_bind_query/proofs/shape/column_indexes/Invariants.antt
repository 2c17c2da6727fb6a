use Rattle.std.proofs.Common.{◌≡◌, map, take}
use Rattle.rs_scope.specs.Scope.{column_index_of}
use Rattle.rs_bind_query.proofs.shape.column_indexes.Given as goal

abbrev pub invariant-loop-written : goal.invariant-loop-written
invariant-loop-written l = l.column_indexes ≡ map (column_index_of l.scope) (take l.written-index l.columns)
