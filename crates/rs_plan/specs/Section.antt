-- What a section asks of the columns of its table.
use Rattle.std.specs.Prelude.{ℕ, Bool, true, false, ◌&&◌, ◌||◌, ◌==◌, List, [], ◌∷◌}
use Rattle.std.specs.List.{list_any}
use Rattle.rs_ast.specs.declared.bound.BoundCmp.{BoundCmp}
use Rattle.rs_ast.specs.declared.bound.BoundSide.{BoundSide}
use Rattle.rs_ast.specs.declared.bound.BoundSide.TheVariants as sides
use Rattle.rs_ast.specs.declared.clause.Op.{Op}
use Rattle.rs_ast.specs.declared.clause.Op.TheVariants as ops
use Rattle.rs_plan.specs.declared.section.SectionKind.{SectionKind}
use Rattle.rs_plan.specs.declared.section.SectionKind.TheVariants as kinds

-- a value or a parameter, and no column
abbrev pub is_given : BoundSide → Bool
is_given (sides.Place column_index) = false
is_given (sides.Lit value) = true
is_given (sides.Param param) = true

abbrev pub is_equality : Op → Bool
is_equality ops.Eq = true
is_equality ops.Ne = false
is_equality ops.Lt = false
is_equality ops.Le = false
is_equality ops.Gt = false
is_equality ops.Ge = false

abbrev pub is_range : Op → Bool
is_range ops.Eq = false
is_range ops.Ne = false
is_range ops.Lt = true
is_range ops.Le = true
is_range ops.Gt = true
is_range ops.Ge = true

-- the clause is one comparison, of this column with a value or a parameter, by an operator of this kind
abbrev pub compares : (Op → Bool) → ℕ → List BoundCmp → Bool
compares test column [] = false
compares test column (cmp ∷ []) = cmp.left == column && is_given cmp.right && test cmp.op
compares test column (cmp ∷ other ∷ others) = false

-- the predicate of a section
abbrev pub clauses_of : SectionKind → List (List BoundCmp)
clauses_of (kinds.Scan clauses columns) = clauses
clauses_of (kinds.Fetch clauses columns by) = clauses
clauses_of (kinds.Insert rows) = []
clauses_of (kinds.Delete clauses) = clauses
clauses_of (kinds.Update sets clauses) = clauses

-- the section is a fetch by this column
abbrev pub is_fetched_by : SectionKind → ℕ → Bool
is_fetched_by (kinds.Scan clauses columns) column = false
is_fetched_by (kinds.Fetch clauses columns by) column = by == column
is_fetched_by (kinds.Insert rows) column = false
is_fetched_by (kinds.Delete clauses) column = false
is_fetched_by (kinds.Update sets clauses) column = false

-- the column has an equality with a value or a parameter, or the section is a fetch by it
abbrev pub has_equality : SectionKind → ℕ → Bool
has_equality kind column = is_fetched_by kind column || list_any (compares is_equality column) (clauses_of kind)

-- the column has a range with a value or a parameter
abbrev pub has_range : SectionKind → ℕ → Bool
has_range kind column = list_any (compares is_range column) (clauses_of kind)
