-- The fields of rows with indexes.
use Rattle.std.specs.Prelude.{◌≡◌}
use Rattle.rs_table.specs.IndexedRows.{IndexedRows, indexes_over, columns_of}
use Rattle.rs_table.specs.declared.indexed_rows.IndexedRows.TheInside.{Inside}

abbrev pub indexed_rows_of : Inside → IndexedRows
indexed_rows_of a = record { table = a.rows; columns = columns_of a.indexes.items }

-- each index is over these rows
abbrev pub AreOverRows : Inside → Type 0
AreOverRows a = a.indexes.items ≡ indexes_over a.rows.rows (columns_of a.indexes.items)
