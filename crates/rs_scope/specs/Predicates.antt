-- A predicate with column indexes for names and positions for parameters. It is meant for one that isn't denied.
use Rattle.std.specs.Prelude.{List, map}
use Rattle.rs_ast.specs.declared.bound.BoundCmp.{BoundCmp}
use Rattle.rs_ast.specs.declared.bound.BoundSide.{BoundSide}
use Rattle.rs_ast.specs.declared.bound.BoundSide.TheVariants as sides
use Rattle.rs_ast.specs.declared.clause.Clause.{Clause}
use Rattle.rs_ast.specs.declared.clause.Cmp.{Cmp}
use Rattle.rs_ast.specs.declared.clause.Operand.{Operand}
use Rattle.rs_ast.specs.declared.clause.Operand.TheVariants as operands
use Rattle.rs_scope.specs.declared.scope.Param.{Param}
use Rattle.rs_scope.specs.declared.scope.ScopeColumn.{ScopeColumn}
use Rattle.rs_scope.specs.Scope.{column_index_of, param_index}

abbrev pub bound_side : List ScopeColumn → List Param → Operand → BoundSide
bound_side scope params (operands.Col written) = sides.Place (column_index_of scope written)
bound_side scope params (operands.Lit value) = sides.Lit value
bound_side scope params (operands.Param name) = sides.Param (param_index params name)

abbrev pub bound_cmp : List ScopeColumn → List Param → Cmp → BoundCmp
bound_cmp scope params cmp =
    record { left = column_index_of scope cmp.left; op = cmp.op; right = bound_side scope params cmp.right }

abbrev pub bound_clauses : List ScopeColumn → List Param → List Clause → List (List BoundCmp)
bound_clauses scope params clauses = map (λ clause. map (bound_cmp scope params) clause.any) clauses
