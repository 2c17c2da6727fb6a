-- The rows of a table with the indexes over them.
use Rattle.std.specs.Prelude.{ℕ, List, map}
use Rattle.std.specs.Option.{option_map_or}
use Rattle.rs_base.specs.declared.value.Value.{Value}
use Rattle.rs_index.specs.Index.{Index}
use Rattle.rs_index.specs.Pairs.{added, dropped, pair_of, pairs_of}
use Rattle.rs_rows.specs.TableRows.{TableRows, RowsByNumber}

-- the rows, and the columns of the indexes in order of creation
pub record IndexedRows : Type 0 where
  pub table : TableRows
  pub columns : List ℕ

-- ---- indexes over rows

-- the index over a column of these rows
abbrev pub index_over : RowsByNumber → ℕ → Index
index_over rows column = record { column = column; pairs = pairs_of column rows }

-- the indexes over columns of these rows
abbrev pub indexes_over : RowsByNumber → List ℕ → List Index
indexes_over rows columns = map (index_over rows) columns

abbrev pub columns_of : List Index → List ℕ
columns_of indexes = map (λ index. index.column) indexes

-- ---- one row more or less

-- the index with the value that this row has in its column, if it has one
abbrev pub with_entry : ℕ × List Value → Index → Index
with_entry entry index =
    record index { pairs = option_map_or (λ pair. added pair index.pairs) (pair_of index.column entry) index.pairs }

-- the index without that value
abbrev pub without_entry : ℕ × List Value → Index → Index
without_entry entry index =
    record index { pairs = option_map_or (λ pair. dropped pair index.pairs) (pair_of index.column entry) index.pairs }
