-- The entries that a statement is bound over: they are its tables, and give their columns; parameters may have values.
use Rattle.std.specs.Prelude.{◌≡◌, ℕ, List, map, zip, length, Option, Some, None}
use Rattle.rs_base.specs.declared.value.Kind.{Kind}
use Rattle.rs_base.specs.declared.value.Value.{Value}
use Rattle.rs_base.specs.Value.{kind_of}
use Rattle.rs_ast.specs.declared.column.ColDef.{ColDef}
use Rattle.rs_ast.specs.declared.entry.Column.{Column}
use Rattle.rs_ast.specs.declared.entry.Entry.{Entry}
use Rattle.rs_ast.specs.declared.stmt.Dml.{Dml}
use Rattle.rs_ast.specs.declared.stmt.Dml.TheVariants as dmls
use Rattle.rs_scope.specs.declared.heading.Heading.{Heading}
use Rattle.rs_scope.specs.declared.scope.Param.{Param}

abbrev pub defined : Column → ColDef
defined column = record { name = column.name; kind = column.kind }

-- the columns of an entry, as a statement sees them
abbrev pub heading_of : Entry → Heading
heading_of entry = record { name = entry.name; columns = map defined entry.columns }

abbrev pub headings_of : List Entry → List Heading
headings_of entries = map heading_of entries

abbrev pub unvalued : List ℕ → Param
unvalued name = record { name = name; kind = None }

abbrev pub valued : List ℕ → Value → Param
valued name value = record { name = name; kind = Some (kind_of value) }

-- each parameter has its value's kind; without values none has a kind
abbrev pub params_of : List (List ℕ) → Option (List Value) → List Param
params_of names None = map unvalued names
params_of names (Some values) = map (λ both. valued both.0 both.1) (zip names values)

-- the kinds of the values, if there are values
abbrev pub kinds_given : Option (List Value) → Option (List Kind)
kinds_given None = None
kinds_given (Some values) = Some (map kind_of values)

-- the number of tables that a statement names
abbrev pub table_count : Dml → ℕ
table_count (dmls.Select select) = length select.from
table_count (dmls.Insert name rows) = 1
table_count (dmls.Update name sets clauses) = 1
table_count (dmls.Delete name clauses) = 1

-- with values there is one for each parameter
abbrev pub AreValuesOf : List (List ℕ) → Option (List Value) → Type 0
AreValuesOf names None = Unit {0}
AreValuesOf names (Some values) = length values ≡ length names
