-- Which rows satisfy a predicate.
use Rattle.std.specs.Prelude.{Bool, false, List, Option, Some, None, slice_get}
use Rattle.std.specs.List.{list_any, list_all}
use Rattle.rs_base.specs.declared.value.Value.{Value}
use Rattle.rs_base.specs.Value.{value_cmp}
use Rattle.rs_ast.specs.declared.bound.BoundCmp.{BoundCmp}
use Rattle.rs_ast.specs.declared.bound.BoundSide.{BoundSide}
use Rattle.rs_ast.specs.declared.bound.BoundSide.TheVariants as sides
use Rattle.rs_ast.specs.declared.clause.Op.{Op}
pub use Rattle.rs_ast.specs.Allows.{allows}

-- the right operand's value; a parameter has none before it is filled
abbrev pub side_value : List Value → BoundSide → Option Value
side_value row (sides.Place column_index) = slice_get row column_index
side_value row (sides.Lit value) = Some value
side_value row (sides.Param param) = None

-- both values are there, and satisfy the comparison
abbrev pub comparison_holds : Op → Option Value → Option Value → Bool
comparison_holds op (Some left) (Some right) = allows op (value_cmp left right)
comparison_holds op (Some left) None = false
comparison_holds op None right = false

abbrev pub cmp_holds : List Value → BoundCmp → Bool
cmp_holds row cmp = comparison_holds cmp.op (slice_get row cmp.left) (side_value row cmp.right)

-- one of its comparisons holds
abbrev pub clause_holds : List Value → List BoundCmp → Bool
clause_holds row clause = list_any (cmp_holds row) clause

-- the row satisfies each clause
unfoldable pub holds : List (List BoundCmp) → List Value → Bool
holds clauses row = list_all (clause_holds row) clauses
