use Rattle.std.proofs.Common.{arith}
use Rattle.std.proofs.lemmas.Grind.{common_steps}
use Rattle.std.proofs.lemmas.List.FromFn.{map-range_with_len_more}
use Rattle.rs_ast.specs.declared.shape.ShapeItem.TheVariants as items
use Rattle.rs_scope.specs.Scope.{as_u16}
use Rattle.rs_bind_query.proofs.shape.every_column.Goals as goal

pub loop-column_index-preserved : goal.loop-column_index-preserved
loop-column_index-preserved c =
    let more = map-range_with_len_more (λ column_index. items.Col (as_u16 column_index)) 0 c.loop-column_index.column_index c.loop-column_index.column_index (omega arith) in
    grind (arith, common_steps)
