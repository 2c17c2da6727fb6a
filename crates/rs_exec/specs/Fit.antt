-- When a section fits the columns of its table, and the values for its parameters. Without values, as where a section is
-- stored, a parameter fits any kind.
use Rattle.std.specs.Prelude.{ℕ, Bool, ◌&&◌, List, map, Option, Some, None}
use Rattle.std.specs.List.{list_all}
use Rattle.std.specs.Option.{option_map}
use Rattle.rs_base.specs.declared.value.Kind.{Kind}
use Rattle.rs_base.specs.declared.value.Value.{Value}
use Rattle.rs_base.specs.Value.{kind_of}
use Rattle.rs_ast.specs.declared.bound.BoundCmp.{BoundCmp}
use Rattle.rs_ast.specs.declared.column.ColDef.{ColDef}
use Rattle.rs_plan.specs.declared.section.Section.{Section}
use Rattle.rs_plan.specs.declared.section.SectionKind.{SectionKind}
use Rattle.rs_plan.specs.declared.section.SectionKind.TheVariants as sections
use Rattle.rs_plan.specs.Over.{is_column_index, has_kind, clauses_fit, set_fits, row_fits}

-- the kinds of a table's columns
abbrev pub column_kinds : List ColDef → List Kind
column_kinds columns = map (λ column. column.kind) columns

-- the kinds of the values, if there are values
abbrev pub value_kinds : Option (List Value) → Option (List Kind)
value_kinds values = option_map (λ given. map kind_of given) values

-- the column of a fetch is there, and a fetched value has its kind
abbrev pub fetch_fits : List Kind → ℕ → Option Value → Bool
fetch_fits columns by None = is_column_index columns by
fetch_fits columns by (Some value) = has_kind columns (kind_of value) by

-- the predicate fits, and each column that is given is there
abbrev pub query_fits : List Kind → Option (List Kind) → List (List BoundCmp) → List ℕ → Bool
query_fits columns given clauses shipped = clauses_fit columns given clauses && list_all (is_column_index columns) shipped

-- Each column is there; each parameter has a value; comparisons, assignments, inserted rows and a fetched value have the
-- kinds of their columns, and a row one value for each; only integers are computed with.
abbrev pub kind_fits : List Kind → Option (List Kind) → Option Value → SectionKind → Bool
kind_fits columns given fetch (sections.Scan clauses shipped) = query_fits columns given clauses shipped
kind_fits columns given fetch (sections.Fetch clauses shipped by) =
    query_fits columns given clauses shipped && fetch_fits columns by fetch
kind_fits columns given fetch (sections.Insert rows) = list_all (row_fits columns given) rows
kind_fits columns given fetch (sections.Delete clauses) = clauses_fit columns given clauses
kind_fits columns given fetch (sections.Update sets clauses) =
    list_all (set_fits columns given) sets && clauses_fit columns given clauses

-- the section fits these columns, the values, if there are values, and the fetched value, if there is one
unfoldable pub section_fits : Section → List ColDef → Option (List Value) → Option Value → Bool
section_fits section columns values fetch = kind_fits (column_kinds columns) (value_kinds values) fetch section.kind
