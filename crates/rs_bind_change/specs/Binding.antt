-- A change with column indexes for names and positions for parameters. It is meant for one that isn't denied.
use Rattle.std.specs.Prelude.{List, map, option_map, Result}
use Rattle.rs_base.specs.declared.reply.Denial.{Denial}
use Rattle.rs_ast.specs.declared.bound.BoundSet.{BoundSet}
use Rattle.rs_ast.specs.declared.bound.BoundTerm.{BoundTerm}
use Rattle.rs_ast.specs.declared.bound.BoundTerm.TheVariants as bound_terms
use Rattle.rs_ast.specs.declared.change.Set.{Set}
use Rattle.rs_ast.specs.declared.change.Term.{Term}
use Rattle.rs_ast.specs.declared.change.Term.TheVariants as terms
use Rattle.rs_ast.specs.declared.clause.Clause.{Clause}
use Rattle.rs_plan.specs.declared.bound.Bound.{Bound}
use Rattle.rs_plan.specs.declared.bound.Bound.TheVariants as bounds
use Rattle.rs_scope.specs.declared.heading.Heading.{Heading}
use Rattle.rs_scope.specs.declared.scope.Param.{Param}
use Rattle.rs_scope.specs.declared.scope.ScopeColumn.{ScopeColumn}
use Rattle.rs_scope.specs.Denials.{first_denial}
use Rattle.rs_scope.specs.Scope.{as_position, column_index_of, unqualified, param_index, table_scope}
use Rattle.rs_scope.specs.Predicates.{bound_clauses}
use Rattle.rs_plan.specs.Outcome.{unless_denied}
use Rattle.rs_bind_change.specs.Denials.{insert_tests, update_tests, delete_tests}

abbrev pub bound_term : List ScopeColumn → List Param → Term → BoundTerm
bound_term scope params (terms.Col column) = bound_terms.Place (column_index_of scope (unqualified column))
bound_term scope params (terms.Lit value) = bound_terms.Lit value
bound_term scope params (terms.Param name) = bound_terms.Param (param_index params name)

abbrev pub bound_set : List ScopeColumn → List Param → Set → BoundSet
bound_set scope params set = record {
  column = as_position (column_index_of scope (unqualified set.column));
  first = bound_term scope params set.expr.first;
  more = option_map (λ more. (more.0, bound_term scope params more.1)) set.expr.more;
}

abbrev pub bound_rows : List ScopeColumn → List Param → List (List Term) → List (List BoundTerm)
bound_rows scope params rows = map (λ row. map (bound_term scope params) row) rows

-- ---- what is bound, or the cause of the denial

unfoldable pub insert_bound : List (List Term) → Heading → List Param → Result Bound Denial
insert_bound rows heading params =
    let scope = table_scope heading in
    unless_denied (first_denial (insert_tests rows scope params)) (bounds.Insert heading.name (bound_rows scope params rows))

unfoldable pub update_bound : List Set → List Clause → Heading → List Param → Result Bound Denial
update_bound sets clauses heading params =
    let scope = table_scope heading in
    unless_denied (first_denial (update_tests sets clauses scope params))
    (bounds.Update heading.name (map (bound_set scope params) sets) (bound_clauses scope params clauses))

unfoldable pub delete_bound : List Clause → Heading → List Param → Result Bound Denial
delete_bound clauses heading params =
    let scope = table_scope heading in
    unless_denied (first_denial (delete_tests clauses scope params))
    (bounds.Delete heading.name (bound_clauses scope params clauses))
