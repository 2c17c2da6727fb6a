-- A stored table, and what each change does to it.
use Rattle.std.specs.Prelude.{ℕ, ◌^◌, Bool, true, not, ◌&&◌, ◌||◌, ◌==◌, nat_le, nat_lt, is_some, List, [], ◌∷◌, ◌++◌, length, map, fold, zip, sum_by, remove, position, Option, Some, None, bytes_eq, if◌then◌else◌}
use Rattle.std.specs.List.{list_all, list_any}
use Rattle.std.specs.Option.{option_map_or}
use Rattle.rs_base.specs.declared.txn.Txn.{Txn}
use Rattle.rs_base.specs.declared.value.Value.{Value}
use Rattle.rs_base.specs.Sizes.{row_size}
use Rattle.rs_base.specs.Value.{RowList, kind_of}
use Rattle.rs_ast.specs.declared.column.ColDef.{ColDef}
use Rattle.rs_ast.specs.declared.entry.IndexOf.{IndexOf}
use Rattle.rs_ast.specs.Kinds.{same_kind}
use Rattle.rs_rows.specs.Limits.{max_rows, max_table_bytes, fits_row}
use Rattle.rs_rows.specs.TableRows.{TableRows, RowsByNumber, empty, inserted, removed, replaced, numbers, row_of, bytes_of}

-- a table: the transaction that created it, its columns, its indexes in order of creation, and its rows by number
pub record TableContent : Type 0 where
  pub made : Txn
  pub columns : List ColDef
  pub indexes : List IndexOf
  pub rows : TableRows

-- the table with these rows
abbrev pub with_rows : TableRows → TableContent → TableContent
with_rows rows table = record table { rows = rows }

-- ---- limits

-- the largest number of columns
abbrev pub max_columns : ℕ
max_columns = 16

-- a table may have this number of rows, of this number of bytes, and this next number
abbrev pub is_within : ℕ → ℕ → ℕ → Bool
is_within count bytes next = nat_le count max_rows && nat_le bytes max_table_bytes && nat_le next (2 ^ 63)

-- a table may have these rows
abbrev pub may_have : TableRows → Bool
may_have table = is_within (length table.rows) (bytes_of table.rows) table.next

-- ---- rows

abbrev pub has_kind : ColDef → Value → Bool
has_kind column value = same_kind column.kind (kind_of value)

-- the row has a value of its kind for each column
abbrev pub has_kinds : List ColDef → List Value → Bool
has_kinds columns row =
    length columns == length row && list_all (λ both. has_kind both.0 both.1) (zip columns row)

-- a row that the table may store
abbrev pub may_store : List ColDef → List Value → Bool
may_store columns row = has_kinds columns row && fits_row row

-- each of the numbers is that of a row
abbrev pub are_there : List ℕ → RowsByNumber → Bool
are_there named rows = list_all (λ number. is_some (row_of number rows)) named

-- each number is above the one before
abbrev pub is_rising : List ℕ → Bool
is_rising [] = true
is_rising (number ∷ []) = true
is_rising (number ∷ next ∷ rest) = nat_lt number next && is_rising (next ∷ rest)

-- ---- changes of rows

-- the rows at the end, each with the next number
abbrev pub all_inserted : RowList → TableRows → TableRows
all_inserted rows table = fold (λ table row. inserted row table) table rows

-- the rows with these numbers are gone
abbrev pub all_removed : List ℕ → TableRows → TableRows
all_removed named table = fold (λ table number. removed number table) table named

-- the rows in place of those with their numbers
abbrev pub all_replaced : RowsByNumber → TableRows → TableRows
all_replaced entries table = fold (λ table entry. replaced entry.0 entry.1 table) table entries

-- each of the rows may be stored, and there is room for them
abbrev pub may_put : RowList → TableContent → Bool
may_put rows table = list_all (may_store table.columns) rows && may_have (all_inserted rows table.rows)

-- PutRows: the rows are appended, unless one of them may not be stored or the table would be beyond a limit
unfoldable pub put_rows : RowList → TableContent → TableContent
put_rows rows table = if may_put rows table then with_rows (all_inserted rows table.rows) table else table

-- Remove: the rows are removed, unless a number isn't there
unfoldable pub remove_rows : List ℕ → TableContent → TableContent
remove_rows named table =
    if are_there named table.rows.rows then with_rows (all_removed named table.rows) table else table

-- the numbers rise and are there, each of the rows may be stored, and there is room for them in place of the old ones
abbrev pub may_replace : RowsByNumber → TableContent → Bool
may_replace entries table = is_rising (numbers entries) && are_there (numbers entries) table.rows.rows
    && list_all (λ entry. may_store table.columns entry.1) entries && may_have (all_replaced entries table.rows)

-- Replace: the rows are replaced, unless the numbers don't rise, one of them isn't there, a row may not be stored or the
-- table would be beyond a limit
unfoldable pub replace_rows : RowsByNumber → TableContent → TableContent
replace_rows entries table =
    if may_replace entries table then with_rows (all_replaced entries table.rows) table else table

-- ---- sizes

-- the encoded size of the row with this number, 0 if there is none
abbrev pub size_at : ℕ → RowsByNumber → ℕ
size_at number rows = option_map_or row_size (row_of number rows) 0

-- the encoded size of the rows of the entries
abbrev pub new_size : RowsByNumber → ℕ
new_size entries = sum_by (λ entry. row_size entry.1) entries

-- the encoded size of the rows with their numbers
abbrev pub old_size : RowsByNumber → RowsByNumber → ℕ
old_size entries rows = sum_by (λ entry. size_at entry.0 rows) entries

-- ---- indexes

-- an index has this name
abbrev pub has_index : List ℕ → List IndexOf → Bool
has_index name indexes = list_any (λ index. bytes_eq index.name name) indexes

-- an index is on this column
abbrev pub is_indexed : ℕ → List IndexOf → Bool
is_indexed column indexes = list_any (λ index. index.column == column) indexes

-- the column of the index is there
abbrev pub has_column : List ColDef → IndexOf → Bool
has_column columns index = nat_lt index.column (length columns)

-- the column of the index is there, and no index has its name or is on its column
abbrev pub may_index : IndexOf → TableContent → Bool
may_index index table = has_column table.columns index
    && not (has_index index.name table.indexes || is_indexed index.column table.indexes)

-- MakeIndex: the index is created, unless its column isn't there, or an index has its name or is on its column
unfoldable pub make_index : IndexOf → TableContent → TableContent
make_index index table =
    if may_index index table then record table { indexes = table.indexes ++ index ∷ [] } else table

-- the items without the one at this position, if there is a position
abbrev pub without_at : {A : Type 0} → Option ℕ → List A → List A
without_at None items = items
without_at (Some at) items = remove items at

-- the position of the index of this name, if there is one
abbrev pub position_named : List ℕ → List IndexOf → Option ℕ
position_named name indexes = position (λ index. bytes_eq index.name name) indexes

-- DropIndex: the index of this name is dropped, if there is one
unfoldable pub drop_index : List ℕ → TableContent → TableContent
drop_index name table =
    record table { indexes = without_at (position_named name table.indexes) table.indexes }

-- ---- new tables

-- the columns and indexes are those of a table: not too many columns, and each index on one of them
abbrev pub may_be_made : List ColDef → List IndexOf → Bool
may_be_made columns indexes = nat_le (length columns) max_columns && list_all (has_column columns) indexes

-- a table without rows
abbrev pub new_table : Txn → List ColDef → List IndexOf → TableContent
new_table made columns indexes = record { made = made; columns = columns; indexes = indexes; rows = empty }
