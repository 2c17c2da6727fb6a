-- The parameters of a bound statement: each is below a number.
use Rattle.std.specs.Prelude.{ℕ, Bool, true, ◌&&◌, nat_lt, List, Option, Some, None, IsTrue}
use Rattle.std.specs.List.{list_all}
use Rattle.rs_ast.specs.declared.bound.BoundCmp.{BoundCmp}
use Rattle.rs_ast.specs.declared.bound.BoundSet.{BoundSet}
use Rattle.rs_ast.specs.declared.bound.BoundSide.{BoundSide}
use Rattle.rs_ast.specs.declared.bound.BoundSide.TheVariants as sides
use Rattle.rs_ast.specs.declared.bound.BoundTerm.{BoundTerm}
use Rattle.rs_ast.specs.declared.bound.BoundTerm.TheVariants as terms
use Rattle.rs_ast.specs.declared.change.Arith.{Arith}
use Rattle.rs_plan.specs.declared.bound.Bound.{Bound}
use Rattle.rs_plan.specs.declared.bound.Bound.TheVariants as bounds

abbrev pub side_is_below : ℕ → BoundSide → Bool
side_is_below count (sides.Place column_index) = true
side_is_below count (sides.Lit value) = true
side_is_below count (sides.Param param) = nat_lt param count

abbrev pub cmp_is_below : ℕ → BoundCmp → Bool
cmp_is_below count cmp = side_is_below count cmp.right

abbrev pub clauses_are_below : ℕ → List (List BoundCmp) → Bool
clauses_are_below count clauses = list_all (list_all (cmp_is_below count)) clauses

abbrev pub term_is_below : ℕ → BoundTerm → Bool
term_is_below count (terms.Place column_index) = true
term_is_below count (terms.Lit value) = true
term_is_below count (terms.Param param) = nat_lt param count

abbrev pub row_is_below : ℕ → List BoundTerm → Bool
row_is_below count row = list_all (term_is_below count) row

abbrev pub more_is_below : ℕ → Option (Arith × BoundTerm) → Bool
more_is_below count None = true
more_is_below count (Some (op, second)) = term_is_below count second

abbrev pub set_is_below : ℕ → BoundSet → Bool
set_is_below count set = term_is_below count set.first && more_is_below count set.more

-- each parameter of the statement is below this number
abbrev pub HasParamsBelow : ℕ → Bound → Type 0
HasParamsBelow count (bounds.Select names aliases widths clauses shape) = IsTrue (clauses_are_below count clauses)
HasParamsBelow count (bounds.Insert name rows) = IsTrue (list_all (row_is_below count) rows)
HasParamsBelow count (bounds.Update name sets clauses) = IsTrue (list_all (set_is_below count) sets && clauses_are_below count clauses)
HasParamsBelow count (bounds.Delete name clauses) = IsTrue (clauses_are_below count clauses)
