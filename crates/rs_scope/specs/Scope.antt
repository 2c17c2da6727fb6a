-- What the names in a statement refer to: columns by their indexes, and parameters by their positions.
use Rattle.std.specs.Prelude.{ℕ, min, Bool, true, ◌&&◌, List, map, flat_map, zip, count_by, find, bytes_eq, Option, None, option_map, option_and_then, unwrap_or}
use Rattle.std.specs.List.{list_any, position_or_len}
use Rattle.std.specs.Option.{option_map_or}
use Rattle.rs_base.specs.declared.value.Kind.{Kind}
use Rattle.rs_ast.specs.declared.column.ColDef.{ColDef}
use Rattle.rs_ast.specs.declared.column.ColRef.{ColRef}
use Rattle.rs_ast.specs.declared.select.TableRef.{TableRef}
use Rattle.rs_scope.specs.declared.heading.Heading.{Heading}
use Rattle.rs_scope.specs.declared.scope.Param.{Param}
use Rattle.rs_scope.specs.declared.scope.ScopeColumn.{ScopeColumn}

-- ---- numbers

-- A column index has 16 bits, and the position of a parameter 8: no statement that is written needs more.
abbrev pub as_u16 : ℕ → ℕ
as_u16 n = min n 65535

abbrev pub as_position : ℕ → ℕ
as_position n = min n 255

-- ---- the columns of a statement

abbrev pub scope_column : List ℕ → ColDef → ScopeColumn
scope_column alias column = record { table = alias; name = column.name; kind = column.kind }

-- the columns of a table with this alias
abbrev pub columns_as : List ℕ → List ColDef → List ScopeColumn
columns_as alias columns = map (scope_column alias) columns

-- the alias of a table of a query, or the object of its name
abbrev pub alias_of : TableRef → Heading → List ℕ
alias_of ref heading = unwrap_or ref.alias heading.name.object

abbrev pub aliases_of : List TableRef → List Heading → List (List ℕ)
aliases_of refs headings = map (λ both. alias_of both.0 both.1) (zip refs headings)

-- the columns that a query may name, by column index
abbrev pub query_scope : List TableRef → List Heading → List ScopeColumn
query_scope refs headings = flat_map (λ both. columns_as (alias_of both.0 both.1) both.1.columns) (zip refs headings)

-- the columns that a change of one table may name
abbrev pub table_scope : Heading → List ScopeColumn
table_scope heading = columns_as heading.name.object heading.columns

-- ---- columns by their names

-- the name as it is written is this column's
abbrev pub is_named : ColRef → ScopeColumn → Bool
is_named written column = bytes_eq column.name written.column
    && option_map_or (λ alias. bytes_eq column.table alias) written.table true

-- the number of columns of that name
abbrev pub named_count : List ScopeColumn → ColRef → ℕ
named_count scope written = count_by (is_named written) scope

-- the index of the first column of that name; if there is none, the number of columns
abbrev pub column_index_of : List ScopeColumn → ColRef → ℕ
column_index_of scope written = as_u16 (position_or_len (is_named written) scope)

-- an unqualified column
abbrev pub unqualified : List ℕ → ColRef
unqualified column = record { table = None; column = column }

-- the kind of the column that a name refers to
abbrev pub column_kind : List ScopeColumn → ColRef → Option Kind
column_kind scope written = option_map (λ column. column.kind) (find (is_named written) scope)

-- ---- parameters by their names

abbrev pub is_param : List ℕ → Param → Bool
is_param name param = bytes_eq param.name name

abbrev pub is_declared : List Param → List ℕ → Bool
is_declared params name = list_any (is_param name) params

-- the position of the parameter of that name; meant for one that is declared
abbrev pub param_index : List Param → List ℕ → ℕ
param_index params name = as_position (position_or_len (is_param name) params)

-- the kind of the parameter's value, if it has one
abbrev pub param_kind : List Param → List ℕ → Option Kind
param_kind params name = option_and_then (λ param. param.kind) (find (is_param name) params)
