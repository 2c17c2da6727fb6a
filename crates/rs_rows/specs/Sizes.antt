-- The encoded size of rows.
use Rattle.std.specs.Prelude.{ℕ, sum_by}
use Rattle.rs_base.specs.Sizes.{row_size}
use Rattle.rs_base.specs.Value.{RowList}

-- the bytes of all the rows
abbrev pub rows_size : RowList → ℕ
rows_size rows = sum_by row_size rows
