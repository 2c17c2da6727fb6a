use Rattle.std.proofs.Common.{◌≡◌, map}
use Rattle.std.specs.List.{range_with_len}
use Rattle.rs_ast.specs.declared.shape.ShapeItem.TheVariants as items
use Rattle.rs_scope.specs.Scope.{as_u16}
use Rattle.rs_bind_query.proofs.shape.every_column.Given as goal

abbrev pub invariant-loop-column_index : goal.invariant-loop-column_index
invariant-loop-column_index l = l.items ≡ map (λ column_index. items.Col (as_u16 column_index)) (range_with_len 0 l.column_index)
