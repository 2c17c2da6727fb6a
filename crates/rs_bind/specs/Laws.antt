-- Laws of every bound statement.
use Rattle.std.specs.Prelude.{◌≡◌, ◌≤◌, ◌==◌, ℕ, false, List, length, All, Option, Some, Ok}
use Rattle.rs_base.specs.declared.value.Value.{Value}
use Rattle.rs_ast.specs.Limits.{DmlKeepsLimits}
use Rattle.rs_ast.specs.declared.column.ColRef.{ColRef}
use Rattle.rs_ast.specs.declared.entry.Entry.{Entry}
use Rattle.rs_ast.specs.declared.stmt.Dml.{Dml}
use Rattle.rs_plan.specs.declared.bound.Bound.{Bound}
use Rattle.rs_plan.specs.Over.{IsNarrow, IsOver}
use Rattle.rs_plan.specs.Params.{HasParamsBelow}
use Rattle.rs_scope.specs.Scope.{named_count, column_index_of}
use Rattle.rs_bind.specs.AsWritten.{scope_of, IsNamedAt, IsBoundAs}
use Rattle.rs_bind.specs.Binding.{bound_of}
use Rattle.rs_bind.specs.Entries.{headings_of, params_of, kinds_given, table_count, AreValuesOf}

-- a statement that keeps the limits and is bound over the entries of its tables, with at most 16 parameters, and not denied,
-- is over them, and fits the values, if there are values; each of its parameters is below the number of their names
abbrev pub BoundIsOver : Type 0
BoundIsOver = (stmt : Dml) (entries : List Entry) (names : List (List ℕ)) (given : Option (List Value)) (bound : Bound)
    → DmlKeepsLimits stmt → All IsNarrow entries → length entries ≡ table_count stmt
    → length names ≤ 16 → AreValuesOf names given
    → bound_of stmt (headings_of entries) (params_of names given) ≡ Some (Ok bound)
    → IsOver bound entries (kinds_given given) × HasParamsBelow (length names) bound

-- in a statement that keeps the limits, over the entries of its tables, a name that some column has is bound to the index of
-- such a column
abbrev pub PlacesAreNamed : Type 0
PlacesAreNamed = (stmt : Dml) (entries : List Entry) (written : ColRef)
    → DmlKeepsLimits stmt → All IsNarrow entries → length entries ≡ table_count stmt
    → (named_count (scope_of stmt (headings_of entries)) written == 0) ≡ false
    → IsNamedAt (scope_of stmt (headings_of entries)) written (column_index_of (scope_of stmt (headings_of entries)) written)

-- a statement that keeps the limits and is bound over the entries of its tables, with at most 16 parameters, and not denied,
-- is bound as it is written
abbrev pub BoundIsAsWritten : Type 0
BoundIsAsWritten = (stmt : Dml) (entries : List Entry) (names : List (List ℕ)) (given : Option (List Value)) (bound : Bound)
    → DmlKeepsLimits stmt → All IsNarrow entries → length entries ≡ table_count stmt
    → length names ≤ 16 → AreValuesOf names given
    → bound_of stmt (headings_of entries) (params_of names given) ≡ Some (Ok bound)
    → IsBoundAs stmt (headings_of entries) names bound
