-- Whether a table has room for new rows beside others.
use Rattle.std.specs.Prelude.{ℕ, ◌+◌, Bool, ◌&&◌, nat_le, length}
use Rattle.std.specs.List.{list_all}
use Rattle.rs_base.specs.Value.{RowList}
use Rattle.rs_rows.specs.Limits.{max_rows, max_table_bytes, fits_row}
use Rattle.rs_rows.specs.Sizes.{rows_size}

-- a table may hold this number of rows, of this number of bytes
abbrev pub fits_table : ℕ → ℕ → Bool
fits_table count bytes = nat_le count max_rows && nat_le bytes max_table_bytes

-- each of the rows may be stored, and there is room for them beside this number of rows of this number of bytes
abbrev pub has_room_beside : ℕ → ℕ → RowList → Bool
has_room_beside count bytes new = list_all fits_row new && fits_table (count + length new) (bytes + rows_size new)
