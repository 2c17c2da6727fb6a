-- Predicates with values for their parameters.
use Rattle.std.specs.Prelude.{ℕ, List, map, Option, Some, None, slice_get}
use Rattle.rs_base.specs.declared.value.Value.{Value}
use Rattle.rs_ast.specs.declared.bound.BoundCmp.{BoundCmp}
use Rattle.rs_ast.specs.declared.bound.BoundSide.{BoundSide}
use Rattle.rs_ast.specs.declared.bound.BoundSide.TheVariants as sides

-- the value, or the parameter as it was if it has none
abbrev pub filled_param : ℕ → Option Value → BoundSide
filled_param param None = sides.Param param
filled_param param (Some value) = sides.Lit value

abbrev pub filled_side : List Value → BoundSide → BoundSide
filled_side values (sides.Place column_index) = sides.Place column_index
filled_side values (sides.Lit value) = sides.Lit value
filled_side values (sides.Param param) = filled_param param (slice_get values param)

abbrev pub filled_cmp : List Value → BoundCmp → BoundCmp
filled_cmp values cmp = record cmp { right = filled_side values cmp.right }

-- the predicate, each parameter replaced by its value
abbrev pub filled : List Value → List (List BoundCmp) → List (List BoundCmp)
filled values clauses = map (λ clause. map (filled_cmp values) clause) clauses
