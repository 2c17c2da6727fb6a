-- The fields of stored rows.
use Rattle.std.specs.Prelude.{◌≡◌, ◌-◌, ◌^◌, length, min, sum}
use Rattle.rs_base.specs.Value.{RowList}
use Rattle.rs_rows.specs.Cut.{cut}
use Rattle.rs_rows.specs.Sizes.{rows_size}
use Rattle.rs_rows.specs.declared.stored_rows.StoredRows.TheInside.{Inside}

abbrev pub rows_of : Inside → RowList
rows_of a = cut a.widths.items a.values.items

-- each value belongs to a row, and the bytes are those of the rows
pub record IsWhole (a : Inside) : Type 0 where
  pub whole : sum a.widths.items ≡ length a.values.items
  pub bytes : a.bytes ≡ min (rows_size (rows_of a)) (2 ^ 64 - 1)
