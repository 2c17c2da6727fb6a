-- The limits of rows and tables.
use Rattle.std.specs.Prelude.{ℕ, Bool, ◌&&◌, nat_le, List, length}
use Rattle.rs_base.specs.declared.value.Value.{Value}
use Rattle.rs_base.specs.Sizes.{row_size}
use Rattle.rs_rows.specs.Sizes.{rows_size}

-- the largest size of a row, in bytes
abbrev pub max_row_bytes : ℕ
max_row_bytes = 1024

-- the largest number of rows of a table
abbrev pub max_rows : ℕ
max_rows = 65536

-- the largest size of a table, in bytes
abbrev pub max_table_bytes : ℕ
max_table_bytes = 8388608

-- a table may hold this row
abbrev pub fits_row : List Value → Bool
fits_row row = nat_le (row_size row) max_row_bytes

-- a table may hold all these rows
abbrev pub fits_rows : List (List Value) → Bool
fits_rows rows = nat_le (length rows) max_rows && nat_le (rows_size rows) max_table_bytes
