-- A bound statement, or the cause of the denial.
use Rattle.std.specs.Prelude.{List, [], ◌∷◌, Option, Some, None, Result}
use Rattle.rs_base.specs.declared.reply.Denial.{Denial}
use Rattle.rs_ast.specs.declared.stmt.Dml.{Dml}
use Rattle.rs_ast.specs.declared.stmt.Dml.TheVariants as dmls
use Rattle.rs_plan.specs.declared.bound.Bound.{Bound}
use Rattle.rs_scope.specs.declared.heading.Heading.{Heading}
use Rattle.rs_scope.specs.declared.scope.Param.{Param}
use Rattle.rs_bind_query.specs.Binding.{select_bound}
use Rattle.rs_bind_change.specs.Binding.{insert_bound, update_bound, delete_bound}

-- a statement over these tables; a change is over one
abbrev pub bound_of : Dml → List Heading → List Param → Option (Result Bound Denial)
bound_of (dmls.Select select) headings params = Some (select_bound select headings params)
bound_of (dmls.Insert name rows) (heading ∷ []) params = Some (insert_bound rows heading params)
bound_of (dmls.Update name sets clauses) (heading ∷ []) params = Some (update_bound sets clauses heading params)
bound_of (dmls.Delete name clauses) (heading ∷ []) params = Some (delete_bound clauses heading params)
bound_of (dmls.Insert name rows) headings params = None
bound_of (dmls.Update name sets clauses) headings params = None
bound_of (dmls.Delete name clauses) headings params = None
