-- What calls on tables and their indexes are answered.
use Rattle.std.specs.Prelude.{ℕ, Bool, not, ◌&&◌, ◌||◌, ◌==◌, nat_lt, List, map, length, bytes_eq, slice_get, if◌then◌else◌}
use Rattle.std.specs.List.{list_any, filter_map, enumerate_from}
use Rattle.std.specs.Ordering.{is_eq}
use Rattle.rs_base.specs.declared.name.Swn.{Swn}
use Rattle.rs_base.specs.declared.txn.Txn.{Txn}
use Rattle.rs_base.specs.declared.value.Value.{Value}
use Rattle.rs_base.specs.Value.{value_cmp}
use Rattle.rs_ast.specs.declared.column.ColDef.{ColDef}
use Rattle.rs_ast.specs.declared.entry.Column.{Column}
use Rattle.rs_ast.specs.declared.entry.Entry.{Entry}
use Rattle.rs_ast.specs.declared.entry.IndexOf.{IndexOf}
use Rattle.rs_answer.specs.Groups.{once}
use Rattle.rs_plan.specs.declared.call_reply.CallReply.TheVariants as replies
use Rattle.rs_plan.specs.declared.change.Change.TheVariants as changes
use Rattle.rs_rows.specs.TableRows.{RowsByNumber}
use Rattle.rs_exec.specs.Pages.{page}
use Rattle.rs_exec.specs.Running.{plain}
use Rattle.rs_call_meaning.specs.Answered.{Answered, replied, done, if_here}
use Rattle.rs_call_meaning.specs.Contents.{Context, table_in, is_made_by, rows_in}
use Rattle.rs_table.specs.Table.{TableContent}

-- ---- entries

abbrev pub same_value : Value → Value → Bool
same_value one other = is_eq (value_cmp one other)

-- the number of distinct values that rows have in a column
abbrev pub distinct_count : List (List Value) → ℕ → ℕ
distinct_count rows column = length (once same_value (filter_map (λ row. slice_get row column) rows))

-- the column of this index, with the number of its distinct values
abbrev pub entry_column : List (List Value) → ℕ × ColDef → Column
entry_column rows column =
    record { name = column.1.name; kind = column.1.kind; distinct = distinct_count rows column.0 }

-- the catalog entry of a table at this site, with the counts of these rows
abbrev pub entry_of : ℕ → Swn → RowsByNumber → TableContent → Entry
entry_of site name rows table = record {
  name = name;
  made = table.made;
  place = site;
  columns = map (entry_column (plain rows)) (enumerate_from 0 table.columns);
  indexes = table.indexes;
  count = length rows;
}

-- Describe: the entry, whose counts are those of the stored rows, without the enlistment's own changes
abbrev pub describe : Context → Swn → Answered
describe context name =
    if_here context (λ table. replied (replies.Entry (entry_of context.site name (rows_in (table_in context.stored)) table)))

-- ---- whole tables

-- MakeTable: the table is created, without rows
abbrev pub make_table : Swn → Txn → List ColDef → List IndexOf → Answered
make_table name made columns indexes = done (changes.MakeTable name made columns indexes)

-- PutRows: the rows are appended
abbrev pub put_rows : Swn → List (List Value) → Answered
put_rows name rows = done (changes.PutRows name rows)

-- Dump: a page of the rows after the first `from`; of a table that isn't there, no rows
abbrev pub dump : Context → ℕ → Answered
dump context from =
    let shipped = page from (plain (rows_in (table_in context.current))) in replied (replies.Rows shipped.0 shipped.1)

-- DropTable: the table is dropped
abbrev pub drop_table : Swn → Answered
drop_table name = done (changes.DropTable name)

-- ---- indexes

-- an index has this name
abbrev pub has_index : List IndexOf → List ℕ → Bool
has_index indexes name = list_any (λ index. bytes_eq index.name name) indexes

-- an index is on this column
abbrev pub is_indexed : List IndexOf → ℕ → Bool
is_indexed indexes column = list_any (λ index. index.column == column) indexes

-- MakeIndex: Stale if this transaction didn't create the table, or the column isn't there; Taken if an index has the name
-- or is on the column. The change names the transaction of the enlistment, which creates the index.
abbrev pub make_index : Context → Swn → Txn → List ℕ → ℕ → Answered
make_index context name made index column = if_here context (λ table.
    if not (is_made_by made table && nat_lt column (length table.columns)) then replied replies.Stale
    else (if has_index table.indexes index || is_indexed table.indexes column then replied replies.Taken
    else done (changes.MakeIndex name made index column context.txn)))

-- DropIndex: Stale if this transaction didn't create the table; Absent if no index has the name
abbrev pub drop_index : Context → Swn → Txn → List ℕ → Answered
drop_index context name made index = if_here context (λ table.
    if not (is_made_by made table) then replied replies.Stale
    else (if not (has_index table.indexes index) then replied replies.Absent
    else done (changes.DropIndex name made index)))
